-- The loop's invariant: all knots pass where those from i on do.
use mathlib.Core.Path.{sym, ◌∙◌}
use native.Mathlib.Omega.{arith}
use Rattle.spline.specs.Each.{stops, goes, walked}
use Rattle.spline.specs.KnotLaws.{knots-each}
use Rattle.spline.proofs.knots.knots_fit.Goals as goal

pub returns-then-not-knot_fits : goal.returns-then-not-knot_fits
returns-then-not-knot_fits c = sym (stops (knots-each _) _ _ c.loop-i.invariant.2 (omega arith) (sym c.knot_fits.ensures ∙ c.if-not-knot_fits.true))

pub loop-i-preserved : goal.loop-i-preserved
loop-i-preserved c = (omega arith, omega arith, goes (knots-each _) _ _ c.loop-i.invariant.2 (omega arith) (sym c.knot_fits.ensures ∙ c.if-not-knot_fits.false))

pub returns : goal.returns
returns c = sym (walked (knots-each _) _ c.loop-i.i c.loop-i.invariant.2 (omega arith))
