use mathlib.Core.Path.{refl}
use Rattle.lent.specs.Lent.{sound_flags}
use Rattle.lent.proofs.sound_flags.Goals as goal

pub returns : goal.returns
unfolding sound_flags
returns c = refl
