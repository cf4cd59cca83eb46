-- The hint's run, and what is explored after it; with no hint the grid is explored at once.
use mathlib.Core.Path.{sym, ◌∙◌}
use Rattle.surface.specs.Surface.{Surface, surface}
use Rattle.inversion.proofs.ExploreSteps.{unhinted, hint-spent, hint-refused, hint-fits, hint-close, hint-far}
use Rattle.inversion.proofs.invert_nurbs.Goals as goal

pub returns-in_default : goal.returns-in_default
returns-in_default c = unhinted _ _ _ _ _ _ c.in_default.is c.explore.ensures

pub returns-then-within : goal.returns-then-within
returns-then-within c =
    let of : Surface = let a = c.args in surface a.accepted.shape a.ku.now a.kv.now a.controls.now a.weights.now in
    let end = c in
    let to = end in
    hint-close of _ _ _ _ _ _ c.requires.0.window _ _ to.in-At.is to.run.ensures _ _ end.in-Ended.is (sym c.within.ensures ∙ c.if-within.true)

pub explore-requires-in-Ended : goal.explore-requires-in-Ended
explore-requires-in-Ended c =
    let of : Surface = let a = c.args in surface a.accepted.shape a.ku.now a.kv.now a.controls.now a.weights.now in
    let end = c in
    let to = end in
    (c.requires.0, c.requires.1, hint-fits of _ _ _ c.args.tolerance _ _ c.requires.0.window _ _ to.in-At.is to.run.ensures _ _ end.in-Ended.is)

pub returns-in-Spent : goal.returns-in-Spent
returns-in-Spent c =
    let of : Surface = let a = c.args in surface a.accepted.shape a.ku.now a.kv.now a.controls.now a.weights.now in
    let to = c in
    hint-spent of _ _ _ _ _ _ c.requires.0.window _ _ to.in-At.is to.run.ensures c.in-Spent.is

pub returns-in-Refused : goal.returns-in-Refused
returns-in-Refused c =
    let of : Surface = let a = c.args in surface a.accepted.shape a.ku.now a.kv.now a.controls.now a.weights.now in
    let to = c in
    hint-refused of _ _ _ _ _ _ c.requires.0.window _ _ to.in-At.is to.run.ensures _ c.in-Refused.is

pub returns-else-within : goal.returns-else-within
returns-else-within c =
    let of : Surface = let a = c.args in surface a.accepted.shape a.ku.now a.kv.now a.controls.now a.weights.now in
    let at = c in
    let end = at in
    let to = end in
    hint-far of _ _ _ _ _ _ c.requires.0.window _ _ to.in-At.is to.run.ensures _ _ end.in-Ended.is (sym at.within.ensures ∙ at.if-within.false) c.explore-in-Ended.ensures
