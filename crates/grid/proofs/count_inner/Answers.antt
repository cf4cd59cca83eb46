-- The knots inside that are counted, and then those from i on, are all.
use native.Mathlib.Omega.{arith}
use Rattle.grid.proofs.AxisSteps.{count-begin, count-new, count_same, count-over}
use Rattle.grid.proofs.count_inner.Goals as goal
use Rattle.grid.proofs.count_inner.Goals.{then-is_inner, else-is_inner}

pub loop-i-init : goal.loop-i-init
loop-i-init c = (omega arith, omega arith, omega arith, count-begin _ _ _)

pub loop-i-preserved : goal.loop-i-preserved
loop-i-preserved c =
    let at = c in
    let e = at.loop-i.invariant.3 in
    elim c.if-is_inner.branch [
      | then-is_inner w ↦ (
        omega arith,
        omega arith,
        rw w.count-is (omega arith),
        rw (w.last-is, w.count-is) (count-new _ _ _ _ at.loop-i.i (omega arith) _ c.is_inner.ensures _ _ e w.if-is_inner.true),
      )
      | else-is_inner w ↦ (
        omega arith,
        omega arith,
        rw w.count-is (omega arith),
        rw (w.last-is, w.count-is) (count_same _ _ _ _ at.loop-i.i (omega arith) _ c.is_inner.ensures _ _ e w.if-is_inner.false),
      )
    ]

pub returns : goal.returns
returns c = (count-over _ _ _ _ c.loop-i.i _ _ c.loop-i.invariant.3 (omega arith), omega arith)
