use Rattle.lent.specs.Lent.{fits_edges}
use Rattle.lent.proofs.Steps.{both}
use Rattle.lent.proofs.fits_edges.Goals as goal

pub returns : goal.returns
unfolding fits_edges
returns c = both c.sound_surface.ensures c.roomy_edges.ensures
