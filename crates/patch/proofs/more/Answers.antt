-- The code is the definition.
use mathlib.Core.Path.{refl}
use Rattle.patch.specs.Patch.{more}
use Rattle.patch.proofs.more.Goals as goal

pub returns : goal.returns
unfolding more
returns c = refl
