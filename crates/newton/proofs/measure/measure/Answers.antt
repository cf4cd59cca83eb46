-- The distance, and one root more.
use native.Mathlib.Numerals.{add-one}
use Rattle.patch.specs.Patch.{from_mark}
use Rattle.newton.proofs.measure.measure.Goals as goal

pub returns : goal.returns
unfolding from_mark
returns c = simp (c.distance.ensures, add-one)
