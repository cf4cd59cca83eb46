use Rattle.lent.specs.Lent.{sound_surface}
use Rattle.lent.proofs.Steps.{both}
use Rattle.lent.proofs.sound_surface.Goals as goal

pub returns : goal.returns
unfolding sound_surface
returns c = both c.sound_flags.ensures c.sound_window.ensures
