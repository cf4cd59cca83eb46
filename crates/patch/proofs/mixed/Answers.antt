-- The code is the definition.
use mathlib.Core.Path.{refl}
use Rattle.patch.specs.Patch.{mixed_of}
use Rattle.patch.proofs.mixed.Goals as goal

pub returns : goal.returns
unfolding mixed_of
returns c = refl
