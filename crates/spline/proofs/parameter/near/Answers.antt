-- The definition's own numbers, with what `abs` and `max` ensure.
use Rattle.spline.specs.Knots.{near}
use Rattle.spline.proofs.parameter.near.Goals as goal

pub returns : goal.returns
unfolding near
returns c = simp (c.max.ensures, c.abs-2.ensures, c.abs.ensures)
