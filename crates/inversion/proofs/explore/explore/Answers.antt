-- What the walk says of its survey is what the search goes on from.
use native.Mathlib.Omega.{arith}
use Rattle.surface.specs.Surface.{Surface, surface}
use Rattle.surface.specs.SurfaceLaws.{AcceptedSurface, accepted-surface}
use Rattle.scaled.specs.Accepted.{not-refused}
use Rattle.window.specs.SurfaceLaws.{window-within-u, window-within-v}
use Rattle.inversion.proofs.ExploreSteps.{Walks, walks, found-fits, refused-fits, explore-found, explore-refused, explore-spent}
use Rattle.inversion.proofs.explore.explore.Goals as goal

pub axis_values-us-requires : goal.axis_values-us-requires
axis_values-us-requires c =
    let of : Surface = surface c.args.accepted.shape c.args.ku.now c.args.kv.now c.args.controls.now c.args.weights.now in
    let known : AcceptedSurface of = accepted-surface of (not-refused c.requires.0) in
    let to = c in
    (known.knots-u, rw to.requires.0.window (window-within-u of known))

pub axis_values-vs-requires : goal.axis_values-vs-requires
axis_values-vs-requires c =
    let of : Surface = surface c.args.accepted.shape c.args.ku.now c.args.kv.now c.args.controls.now c.args.weights.now in
    let known : AcceptedSurface of = accepted-surface of (not-refused c.requires.0) in
    let to = c in
    (known.knots-v, rw to.requires.0.window (window-within-v of known))

pub overflow_add-found : goal.overflow_add-found
overflow_add-found c =
    let of : Surface = surface c.args.accepted.shape c.args.ku.now c.args.kv.now c.args.controls.now c.args.weights.now in
    let walked : Walks of c.args.accepted.largest c.args.mark c.args.lead.taken c.args.budget c.walk-walked.result = let vs = c in walks _ _ _ _ _ _ vs.axis_values-us.result vs.axis_values-vs.result (rw c.requires.0.window at vs.axis_values-us.ensures.0) (rw c.requires.0.window at vs.axis_values-vs.ensures.0) c.requires.2 c.walk-walked.ensures.0 in
    let at = c in
    let to = at in
    record { fits = omega (arith, c.ranges, found-fits walked at.if-walked-eq0.true) }

pub search-requires : goal.search-requires
search-requires c =
    let of : Surface = surface c.args.accepted.shape c.args.ku.now c.args.kv.now c.args.controls.now c.args.weights.now in
    let walked : Walks of c.args.accepted.largest c.args.mark c.args.lead.taken c.args.budget c.walk-walked.result = let vs = c in walks _ _ _ _ _ _ vs.axis_values-us.result vs.axis_values-vs.result (rw c.requires.0.window at vs.axis_values-us.ensures.0) (rw c.requires.0.window at vs.axis_values-vs.ensures.0) c.requires.2 c.walk-walked.ensures.0 in
    let at = c in
    let to = at in
    (c.requires.0, to.walk-walked.ensures.1, found-fits walked at.if-walked-eq0.true)

pub returns-then-walked-eq0 : goal.returns-then-walked-eq0
returns-then-walked-eq0 c =
    let of : Surface = surface c.args.accepted.shape c.args.ku.now c.args.kv.now c.args.controls.now c.args.weights.now in
    let walked : Walks of c.args.accepted.largest c.args.mark c.args.lead.taken c.args.budget c.walk-walked.result = let vs = c in walks _ _ _ _ _ _ vs.axis_values-us.result vs.axis_values-vs.result (rw c.requires.0.window at vs.axis_values-us.ensures.0) (rw c.requires.0.window at vs.axis_values-vs.ensures.0) c.requires.2 c.walk-walked.ensures.0 in
    let at = c in
    let to = at in
    explore-found walked _ _ _ c.requires.0.window at.if-walked-eq0.true c.search.ensures

pub overflow_add-result : goal.overflow_add-result
overflow_add-result c =
    let of : Surface = surface c.args.accepted.shape c.args.ku.now c.args.kv.now c.args.controls.now c.args.weights.now in
    let walked : Walks of c.args.accepted.largest c.args.mark c.args.lead.taken c.args.budget c.walk-walked.result = let vs = c in walks _ _ _ _ _ _ vs.axis_values-us.result vs.axis_values-vs.result (rw c.requires.0.window at vs.axis_values-us.ensures.0) (rw c.requires.0.window at vs.axis_values-vs.ensures.0) c.requires.2 c.walk-walked.ensures.0 in
    let at = c in
    let to = at in
    record { fits = omega (arith, c.ranges, refused-fits walked at.if-walked-eq9.true) }

pub returns-then-walked-eq9 : goal.returns-then-walked-eq9
returns-then-walked-eq9 c =
    let of : Surface = surface c.args.accepted.shape c.args.ku.now c.args.kv.now c.args.controls.now c.args.weights.now in
    let walked : Walks of c.args.accepted.largest c.args.mark c.args.lead.taken c.args.budget c.walk-walked.result = let vs = c in walks _ _ _ _ _ _ vs.axis_values-us.result vs.axis_values-vs.result (rw c.requires.0.window at vs.axis_values-us.ensures.0) (rw c.requires.0.window at vs.axis_values-vs.ensures.0) c.requires.2 c.walk-walked.ensures.0 in
    let at = c in
    explore-refused walked _ _ at.if-walked-eq9.true

pub returns : goal.returns
returns c =
    let of : Surface = surface c.args.accepted.shape c.args.ku.now c.args.kv.now c.args.controls.now c.args.weights.now in
    let walked : Walks of c.args.accepted.largest c.args.mark c.args.lead.taken c.args.budget c.walk-walked.result = let vs = c in walks _ _ _ _ _ _ vs.axis_values-us.result vs.axis_values-vs.result (rw c.requires.0.window at vs.axis_values-us.ensures.0) (rw c.requires.0.window at vs.axis_values-vs.ensures.0) c.requires.2 c.walk-walked.ensures.0 in
    let at = c in
    explore-spent walked _ _ at.if-walked-eq0.false c.if-walked-eq9.false
