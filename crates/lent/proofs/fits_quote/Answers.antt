use mathlib.Core.Path.{refl}
use Rattle.lent.specs.Lent.{fits_quote}
use Rattle.lent.proofs.Steps.{both}
use Rattle.lent.proofs.fits_quote.Goals as goal

pub returns : goal.returns
unfolding fits_quote
returns c = both (both c.sound_surface.ensures refl) refl
