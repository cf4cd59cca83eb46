-- What is held, and then what `every` gives of the knots from i on, is the whole. A turn keeps a knot inside, skips one, or meets none.
use mathlib.Core.Path.{refl, ap}
use native.Mathlib.Omega.{arith}
use lib.ListN.{length, take}
use Rattle.grid.proofs.AxisSteps.{thin-begin, counted, thin-turn, thin-over}
use Rattle.grid.proofs.thin.Goals as goal
use Rattle.grid.proofs.thin.Goals.{then-is_inner+then-left-eq0, then-is_inner+else-left-eq0, else-is_inner}

pub loop-i-init : goal.loop-i-init
loop-i-init c = (omega arith, omega arith, refl, thin-begin _ _ _ _ _)

pub add_break-out-requires : goal.add_break-out-requires
add_break-out-requires c =
    let at = c in
    let a = at.args in
    let l = at.loop-i in
    let turn = thin-turn a.low a.high l.last a.knots.now l.i (omega arith) _ c.is_inner.ensures _ (take l.out.count l.out.at) a.skip l.left l.invariant.3 in
    omega (arith, l.invariant.2, at.requires, turn.room c.if-is_inner.true c.if-left-eq0.true)

pub loop-i-preserved : goal.loop-i-preserved
loop-i-preserved c =
    let at = c in
    let a = at.args in
    let l = at.loop-i in
    let turn = thin-turn a.low a.high l.last a.knots.now l.i (omega arith) _ c.is_inner.ensures _ (take l.out.count l.out.at) a.skip l.left l.invariant.3 in
    elim c.if-is_inner.branch [
      | then-is_inner+then-left-eq0 w ↦ (
        omega arith,
        omega arith,
        rw w.out-is (counted _ _ (take l.out.count l.out.at) _ _ l.invariant.2 w.add_break-out.ensures.0 w.add_break-out.ensures.1),
        rw (w.out-is, w.last-is, w.left-is, w.add_break-out.ensures.0) (turn.keep w.if-is_inner.true w.if-left-eq0.true),
      )
      | then-is_inner+else-left-eq0 w ↦ (omega arith, omega arith, rw w.out-is l.invariant.2, rw (w.out-is, w.last-is, w.left-is) (turn.skip w.if-is_inner.true w.if-left-eq0.false))
      | else-is_inner w ↦ (omega arith, omega arith, rw w.out-is l.invariant.2, rw (w.out-is, w.last-is, w.left-is) (turn.same w.if-is_inner.false))
    ]

pub returns : goal.returns
returns c =
    let a = c.args in
    let l = c.loop-i in
    let whole = thin-over a.low a.high l.last a.knots.now l.i (omega arith) _ (take l.out.count l.out.at) a.skip l.left l.invariant.3 in
    (whole, omega (arith, ap length whole, c.requires))
