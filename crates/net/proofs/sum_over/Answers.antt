-- A turn of the loop adds the controls of one row.
use mathlib.Core.Path.{◌≡◌}
use Prim.Native.Nat.{◌+◌}
use native.Mathlib.Omega.{arith}
use Rattle.net.specs.Net.{sum_by}
use Rattle.net.specs.NetLaws.{row_inside}
use Rattle.net.proofs.SumSteps.{no-turn, one-turn, row_room}
use Rattle.net.proofs.sum_over.Goals as goal

pub loop-i-init : goal.loop-i-init
loop-i-init c = (omega arith, rw c.empty_sum-sum.ensures (no-turn _ _))

pub overflow_mul-at : goal.overflow_mul-at
overflow_mul-at c = omega (arith, row_inside c.requires.1 c.loop-i.i c.loop-i-test.true)

pub overflow_add-at-in-loop-i : goal.overflow_add-at-in-loop-i
overflow_add-at-in-loop-i c = omega (arith, row_inside c.requires.1 c.loop-i.i c.loop-i-test.true)

pub overflow_mul-i : goal.overflow_mul-i
overflow_mul-i c = omega (arith, row_room c.requires.1 c.loop-i.i c.loop-i-test.true)

pub offset_bounds-u-i : goal.offset_bounds-u-i
offset_bounds-u-i c = omega (arith, c.requires.1.rows-most)

pub bounds-u-i : goal.bounds-u-i
bounds-u-i c = omega (arith, c.requires.1.rows-most)

pub sum_along-sum-requires : goal.sum_along-sum-requires
sum_along-sum-requires c =
    let turn = c in
    let i = turn.loop-i.i in
    let pre = c.requires in
    let p = pre.1 in
    (omega (arith, p.columns-most), row_room p i turn.loop-i-test.true, omega (arith, pre.0, row_inside p i turn.loop-i-test.true))

pub overflow_step-i : goal.overflow_step-i
overflow_step-i c =
    let turn = c in
    omega (arith, turn.loop-i-test.true, c.requires.1.rows-most)

pub loop-i-preserved : goal.loop-i-preserved
loop-i-preserved c =
    let turn = c in
    let l = turn.loop-i in
    (omega (arith, turn.loop-i-test.true), one-turn _ l.i _ l.invariant.1 c.sum_along-sum.ensures)

pub returns : goal.returns
unfolding sum_by
returns c =
    let l = c.loop-i in
    let e : l.i ≡ c.args.shape.u.degree + 1 = omega arith in
    rw e at l.invariant.1
