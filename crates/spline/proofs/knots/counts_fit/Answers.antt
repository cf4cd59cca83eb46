-- The definition's own tests, one by one.
use native.Mathlib.Omega.{arith}
use Rattle.spline.proofs.KnotSteps.{controls-above, count-above, controls-few, in-limits}
use Rattle.spline.proofs.knots.counts_fit.Goals as goal

pub returns-then-controls-gt-MAX_CONTROLS : goal.returns-then-controls-gt-MAX_CONTROLS
returns-then-controls-gt-MAX_CONTROLS c = controls-above _ _ _ c.if-controls-gt-MAX_CONTROLS.true

pub returns-then-count-gt-MAX_KNOTS : goal.returns-then-count-gt-MAX_KNOTS
returns-then-count-gt-MAX_KNOTS c = count-above _ _ _ c.if-count-gt-MAX_KNOTS.true

pub returns-then-controls-degree : goal.returns-then-controls-degree
returns-then-controls-degree c = controls-few _ _ _ c.if-controls-degree.true

pub returns : goal.returns
returns c = in-limits _ _ _ (omega arith) (omega arith) (omega arith)
