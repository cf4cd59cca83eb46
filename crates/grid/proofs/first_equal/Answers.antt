-- The knots from i on give what all of them give.
use mathlib.Core.Path.{refl}
use native.Mathlib.Omega.{arith}
use Rattle.grid.proofs.AxisSteps.{first-met, first_past, first-none}
use Rattle.grid.proofs.first_equal.Goals as goal

pub loop-i-init : goal.loop-i-init
loop-i-init c = (omega arith, omega arith, refl)

pub returns-then-t-x : goal.returns-then-t-x
returns-then-t-x c =
    let at = c in
    first-met _ _ _ at.loop-i.i at.loop-i.invariant.2 (omega arith) c.if-t-x.true

pub loop-i-preserved : goal.loop-i-preserved
loop-i-preserved c =
    let at = c in
    (omega arith, omega arith, first_past _ _ _ at.loop-i.i at.loop-i.invariant.2 (omega arith) c.if-t-x.false)

pub returns : goal.returns
returns c = first-none _ _ _ c.loop-i.i c.loop-i.invariant.2 (omega arith)
