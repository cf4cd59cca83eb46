-- What is found by the functions' first derivatives is what the evaluation finds.
use mathlib.Core.Path.{ap}
use mathlib.Core.Bool.{not}
use mathlib.Core.Path.{◌≡◌}
use Prim.Native.Nat.{ℕ}
use native.Mathlib.Omega.{arith}
use Rattle.surface.specs.Surface.{Surface, surface}
use Rattle.surface.specs.SurfaceLaws.{accepted-surface}
use Rattle.surface.specs.PatchLaws.{weights-lent, controls-lent}
use Rattle.net.specs.Net.{Patch}
use Rattle.scaled.specs.Accepted.{not-refused}
use Rattle.scaled.proofs.FirstOrderSteps.{patch-there, quick}
use borrow.Author.Rules.{rules}
use Rattle.scaled.proofs.first_order.first_order.Goals as goal

pub sample_firsts-from_u-requires : goal.sample_firsts-from_u-requires
sample_firsts-from_u-requires c =
    let a = c in
    ((accepted-surface _ (not-refused a.requires.0)).knots-u, (a.requires.0.bounded a.requires.1).u, search rules, search rules)

pub sample_firsts-from_v-requires : goal.sample_firsts-from_v-requires
sample_firsts-from_v-requires c =
    let a = c in
    ((accepted-surface _ (not-refused a.requires.0)).knots-v, (a.requires.0.bounded a.requires.1).v, search rules, search rules)

pub returns-then-not-from_u-from_v : goal.returns-then-not-from_u-from_v
returns-then-not-from_u-from_v c = λ j h. let z : ◌≡◌ {A = ℕ} 0 1 = cc in absurd (omega arith)

pub weigh-requires : goal.weigh-requires
weigh-requires c =
    let of : Surface = surface c.args.accepted.shape c.args.ku.now c.args.kv.now c.args.controls.now c.args.weights.now in
    let there : Patch c.args.accepted.shape c.sample_firsts-from_u.result.start c.sample_firsts-from_v.result.start = let two = c in let one = c in let a = c in patch-there of a.requires.0 a.args.u a.args.v _ _ _ _ (c.if-not-from_u-from_v.false) one.sample_firsts-from_u.ensures.values_after two.sample_firsts-from_v.ensures.values_after in
    let arm = c in
    let a = c in
    (weights-lent of (not-refused a.requires.0), there, search rules)

pub sum_over-value-requires : goal.sum_over-value-requires
sum_over-value-requires c =
    let of : Surface = surface c.args.accepted.shape c.args.ku.now c.args.kv.now c.args.controls.now c.args.weights.now in
    let there : Patch c.args.accepted.shape c.sample_firsts-from_u.result.start c.sample_firsts-from_v.result.start = let two = c in let one = c in let a = c in patch-there of a.requires.0 a.args.u a.args.v _ _ _ _ (c.if-not-from_u-from_v.false) one.sample_firsts-from_u.ensures.values_after two.sample_firsts-from_v.ensures.values_after in
    let arm = c in
    let a = c in
    (controls-lent of (not-refused a.requires.0), there)

pub returns-then-not-value : goal.returns-then-not-value
returns-then-not-value c = λ j h. let z : ◌≡◌ {A = ℕ} 0 1 = cc in absurd (omega arith)

pub sum_over-along_u-requires : goal.sum_over-along_u-requires
sum_over-along_u-requires c =
    let of : Surface = surface c.args.accepted.shape c.args.ku.now c.args.kv.now c.args.controls.now c.args.weights.now in
    let there : Patch c.args.accepted.shape c.sample_firsts-from_u.result.start c.sample_firsts-from_v.result.start = let two = c in let one = c in let a = c in patch-there of a.requires.0 a.args.u a.args.v _ _ _ _ (c.if-not-from_u-from_v.false) one.sample_firsts-from_u.ensures.values_after two.sample_firsts-from_v.ensures.values_after in
    let arm = c in
    let a = c in
    (controls-lent of (not-refused a.requires.0), there)

pub sum_over-along_v-requires : goal.sum_over-along_v-requires
sum_over-along_v-requires c =
    let of : Surface = surface c.args.accepted.shape c.args.ku.now c.args.kv.now c.args.controls.now c.args.weights.now in
    let there : Patch c.args.accepted.shape c.sample_firsts-from_u.result.start c.sample_firsts-from_v.result.start = let two = c in let one = c in let a = c in patch-there of a.requires.0 a.args.u a.args.v _ _ _ _ (c.if-not-from_u-from_v.false) one.sample_firsts-from_u.ensures.values_after two.sample_firsts-from_v.ensures.values_after in
    let arm = c in
    let a = c in
    (controls-lent of (not-refused a.requires.0), there)

pub returns : goal.returns
returns c =
    let of : Surface = surface c.args.accepted.shape c.args.ku.now c.args.kv.now c.args.controls.now c.args.weights.now in
    λ j h.
    let along-v = c in
    let along-u = along-v in
    let heavy = along-u in
    let value = heavy in
    let net = c in
    let arm = net in
    let two = c in
    let one = c in
    let a = c in
    quick of a.requires.0 a.args.u a.args.v _ _ _ _ (arm.if-not-from_u-from_v.false) one.sample_firsts-from_u.ensures.values_after two.sample_firsts-from_v.ensures.values_after a.requires.1 _ net.weigh.ensures _ _ one.sample_firsts-from_u.ensures.firsts_after two.sample_firsts-from_v.ensures.firsts_after value.sum_over-value.ensures along-u.sum_over-along_u.ensures along-v.sum_over-along_v.ensures (ap not heavy.if-not-value.false) c.jet_of_sums.ensures
