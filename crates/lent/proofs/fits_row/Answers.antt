use Rattle.lent.specs.Lent.{fits_row}
use Rattle.lent.proofs.Steps.{both}
use Rattle.lent.proofs.fits_row.Goals as goal

pub returns : goal.returns
unfolding fits_row
returns c = both (both c.sound_surface.ensures c.sound_options.ensures) c.roomy_row.ensures
