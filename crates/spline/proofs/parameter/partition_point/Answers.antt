-- The loop's invariant: the rank between `lo` and `hi` is that between `first` and `last`. The knot in the middle says on which side of it the rank lies.
use mathlib.Core.Path.{sym, ◌∙◌}
use Prim.Native.Nat.{ℕ, ◌+◌, ◌-◌, ◌/◌}
use native.Mathlib.Omega.{arith}
use Rattle.spline.specs.ParameterLaws.{rank_up, rank_down}
use Rattle.spline.proofs.parameter.partition_point.Goals as goal

abbrev mid : ℕ → ℕ → ℕ
mid lo hi = lo + (hi - lo) / 2

pub loop-lo-preserved-then-comes_before : goal.loop-lo-preserved-then-comes_before
loop-lo-preserved-then-comes_before c =
    let at = c in
    let start = at in
    let lo = at.loop-lo.lo in
    let hi = at.loop-lo.hi in
    (omega arith, omega arith, at.loop-lo.invariant.2 ∙ rank_up start.args.left start.args.u start.args.knots.now start.requires.0 lo (mid lo hi) hi (omega arith) (omega arith) (omega arith) (sym c.comes_before.ensures ∙ c.if-comes_before.true))

pub loop-lo-preserved : goal.loop-lo-preserved
loop-lo-preserved c =
    let at = c in
    let start = at in
    let lo = at.loop-lo.lo in
    let hi = at.loop-lo.hi in
    (omega arith, omega arith, at.loop-lo.invariant.2 ∙ rank_down start.args.left start.args.u start.args.knots.now start.requires.0 lo (mid lo hi) hi (omega arith) (omega arith) (omega arith) (sym c.comes_before.ensures ∙ c.if-comes_before.false))
