-- What `is_finite` says of each number.
use Rattle.patch.specs.Patch.{finite_sum}
use Rattle.patch.proofs.finite_sum.Goals as goal

pub returns : goal.returns
unfolding finite_sum
returns c = rw (c.is_finite.ensures, c.is_finite-2.ensures, c.is_finite-3.ensures, c.is_finite-4.ensures)
