-- The definition's cases. At the upper end it is true on either side.
use mathlib.Core.Path.{sym}
use Rattle.spline.specs.ParameterLaws.{from-left-high}
use Rattle.spline.specs.Knots.{from_left}
use Rattle.spline.proofs.parameter.from_left.Goals as goal

pub returns-then-u-knots : goal.returns-then-u-knots
returns-then-u-knots c = sym (from-left-high _ _ _ c.if-u-knots.true)

pub returns-in-Left : goal.returns-in-Left
unfolding from_left
returns-in-Left c = simp (c.in-Left.is, c.if-u-knots.false)

pub returns-in-Right : goal.returns-in-Right
unfolding from_left
returns-in-Right c = simp (c.in-Right.is, c.if-u-knots.false)
