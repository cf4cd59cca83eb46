use mathlib.Core.Path.{refl}
use Rattle.lent.specs.Lent.{sound_options}
use Rattle.lent.proofs.sound_options.Goals as goal

pub returns : goal.returns
unfolding sound_options
returns c = refl
