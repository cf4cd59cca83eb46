use mathlib.Core.Path.{refl}
use Rattle.lent.specs.Lent.{fits_inversion}
use Rattle.lent.proofs.Steps.{both}
use Rattle.lent.proofs.fits_inversion.Goals as goal

pub returns : goal.returns
unfolding fits_inversion
returns c = both (both (both c.sound_surface.ensures c.sound_options.ensures) c.roomy.ensures) refl
