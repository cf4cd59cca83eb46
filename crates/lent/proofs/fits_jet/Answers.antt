use mathlib.Core.Path.{refl}
use Rattle.lent.specs.Lent.{fits_jet}
use Rattle.lent.proofs.Steps.{both}
use Rattle.lent.proofs.fits_jet.Goals as goal

pub returns : goal.returns
unfolding fits_jet
returns c = both c.sound_surface.ensures refl
