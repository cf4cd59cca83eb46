-- The code is the definition.
use mathlib.Core.Path.{refl}
use Rattle.patch.specs.Patch.{first_of}
use Rattle.patch.proofs.first.Goals as goal

pub returns : goal.returns
unfolding first_of
returns c = refl
