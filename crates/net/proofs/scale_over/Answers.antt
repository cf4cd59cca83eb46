-- A turn of the loop takes the weights of one row more.
use mathlib.Core.Path.{◌≡◌}
use Prim.Native.Nat.{◌+◌}
use native.Mathlib.Omega.{arith}
use Rattle.float64.specs.Nonneg.{nonneg→number, zero-nonneg}
use Rattle.net.specs.Sums.{heaviest}
use Rattle.net.specs.NetLaws.{row_inside}
use Rattle.net.proofs.SumSteps.{no-turn, one-turn, row_room, no-row-held, row-held}
use Rattle.net.proofs.scale_over.Goals as goal

pub loop-i-init : goal.loop-i-init
loop-i-init c = (omega arith, no-turn _ _, nonneg→number zero-nonneg, no-row-held c.requires.2)

pub overflow_mul-at : goal.overflow_mul-at
overflow_mul-at c = omega (arith, row_inside c.requires.1 c.loop-i.i c.loop-i-test.true)

pub overflow_add-at-in-loop-i : goal.overflow_add-at-in-loop-i
overflow_add-at-in-loop-i c = omega (arith, row_inside c.requires.1 c.loop-i.i c.loop-i-test.true)

pub overflow_mul-i : goal.overflow_mul-i
overflow_mul-i c =
    let turn = c in
    omega (arith, row_room c.requires.1 turn.loop-i.i turn.loop-i-test.true)

pub scale_along-most-requires : goal.scale_along-most-requires
scale_along-most-requires c =
    let turn = c in
    let l = turn.loop-i in
    let pre = c.requires in
    let p = pre.1 in
    (rw pre.0 (row_inside p l.i turn.loop-i-test.true), row_room p l.i turn.loop-i-test.true, l.invariant.3.whole, l.invariant.2)

pub overflow_step-i : goal.overflow_step-i
overflow_step-i c =
    let turn = c in
    omega (arith, turn.loop-i-test.true, c.requires.1.rows-most)

pub loop-i-preserved : goal.loop-i-preserved
loop-i-preserved c =
    let turn = c in
    let l = turn.loop-i in
    let e = c.scale_along-most.ensures in
    (omega (arith, turn.loop-i-test.true), one-turn _ l.i _ l.invariant.1 e.value.0, e.value.1, row-held l.invariant.3 e.put)

pub returns : goal.returns
unfolding heaviest
returns c =
    let l = c.loop-i in
    let e : l.i ≡ c.args.shape.u.degree + 1 = omega arith in
    (rw e at l.invariant.1, rw e at l.invariant.3)
