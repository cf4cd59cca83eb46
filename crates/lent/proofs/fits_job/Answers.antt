use mathlib.Core.Path.{refl}
use Rattle.lent.specs.Lent.{fits_job}
use Rattle.lent.proofs.fits_job.Goals as goal

pub returns : goal.returns
unfolding fits_job
returns c = refl
