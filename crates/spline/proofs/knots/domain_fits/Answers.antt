-- The definition's own two tests.
use Rattle.spline.proofs.KnotSteps.{no-width, some-width}
use Rattle.spline.proofs.knots.domain_fits.Goals as goal

pub returns-then-knots-degree : goal.returns-then-knots-degree
returns-then-knots-degree c = some-width _ _ c.if-knots-degree.true c.is_finite.ensures

pub returns : goal.returns
returns c = no-width _ c.if-knots-degree.false
