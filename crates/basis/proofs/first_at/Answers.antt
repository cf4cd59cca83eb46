-- The span is that of a control, and not below the degree.
use native.Mathlib.Omega.{arith}
use Rattle.spline.specs.KnotLaws.{accepted}
use Rattle.basis.specs.BasisLaws.{bounds}
use Rattle.basis.proofs.first_at.Goals as goal

pub overflow_sub-result : goal.overflow_sub-result
overflow_sub-result c = let b = bounds _ _ _ _ (accepted _ c.requires).degree-below c.span.ensures in omega arith

pub returns : goal.returns
returns c =
    let b = bounds _ _ _ _ (accepted _ c.requires).degree-below c.span.ensures in
    (omega (arith, c.span.ensures), omega arith)
