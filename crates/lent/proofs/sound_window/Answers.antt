use mathlib.Core.Path.{refl}
use Rattle.lent.specs.Lent.{sound_window}
use Rattle.lent.proofs.sound_window.Goals as goal

pub returns : goal.returns
unfolding sound_window
returns c = refl
