use Rattle.lent.specs.Lent.{fits_derivative}
use Rattle.lent.proofs.Steps.{both}
use Rattle.lent.proofs.fits_derivative.Goals as goal

pub returns : goal.returns
unfolding fits_derivative
returns c = both c.sound_surface.ensures c.roomy.ensures
