-- The sums over the patch where both functions start, or a refusal where one is not found.
use Rattle.surface.specs.Surface.{Surface, surface}
use Rattle.surface.specs.SurfaceLaws.{accepted-surface}
use Rattle.net.specs.Net.{Patch}
use Rattle.surface.specs.PatchLaws.{weights-lent, controls-lent, patch-at, both, not-both}
use borrow.Author.Rules.{rules}
use Rattle.surface.proofs.jets.surface_jet.Goals as goal

pub sample-from_u-requires : goal.sample-from_u-requires
sample-from_u-requires c = ((accepted-surface _ c.requires).knots-u, search rules)

pub sample-from_v-requires : goal.sample-from_v-requires
sample-from_v-requires c = ((accepted-surface _ c.requires).knots-v, search rules)

pub returns-then-not-found : goal.returns-then-not-found
returns-then-not-found c =
    let of : Surface = surface c.args.shape c.args.ku.now c.args.kv.now c.args.controls.now c.args.weights.now in
    let two = c in
    let one = c in
    let a = c in
    not-both of a.requires _ _ _ _ one.sample-from_u.new.rows two.sample-from_v.new.rows one.sample-from_u.ensures two.sample-from_v.ensures _ (c.if-not-found.true)

pub weigh-requires : goal.weigh-requires
weigh-requires c =
    let of : Surface = surface c.args.shape c.args.ku.now c.args.kv.now c.args.controls.now c.args.weights.now in
    let there : Patch c.args.shape c.sample-from_u.result.start c.sample-from_v.result.start = let two = c in let one = c in let a = c in patch-at of a.requires a.args.u a.args.v _ _ one.sample-from_u.new.rows two.sample-from_v.new.rows one.sample-from_u.ensures two.sample-from_v.ensures (c.if-not-found.false) in
    let a = c in
    (weights-lent of a.requires, there, search rules)

pub sums_over-requires : goal.sums_over-requires
sums_over-requires c =
    let of : Surface = surface c.args.shape c.args.ku.now c.args.kv.now c.args.controls.now c.args.weights.now in
    let there : Patch c.args.shape c.sample-from_u.result.start c.sample-from_v.result.start = let two = c in let one = c in let a = c in patch-at of a.requires a.args.u a.args.v _ _ one.sample-from_u.new.rows two.sample-from_v.new.rows one.sample-from_u.ensures two.sample-from_v.ensures (c.if-not-found.false) in
    let arm = c in
    let a = c in
    (controls-lent of a.requires, there)

pub returns : goal.returns
returns c =
    let of : Surface = surface c.args.shape c.args.ku.now c.args.kv.now c.args.controls.now c.args.weights.now in
    let sums = c in
    let net = sums in
    let arm = net in
    let two = c in
    let one = c in
    let a = c in
    both of a.requires a.args.u a.args.v _ _ one.sample-from_u.new.rows two.sample-from_v.new.rows one.sample-from_u.ensures two.sample-from_v.ensures (arm.if-not-found.false) _ _ net.weigh.ensures sums.sums_over.ensures c.rational.ensures
