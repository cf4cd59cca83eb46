-- The code is the definition.
use mathlib.Core.Path.{refl}
use Rattle.patch.specs.Patch.{second_of}
use Rattle.patch.proofs.second.Goals as goal

pub returns : goal.returns
unfolding second_of
returns c = refl
