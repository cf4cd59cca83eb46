-- The code is the definition.
use mathlib.Core.Path.{refl}
use Rattle.patch.specs.Patch.{point_of}
use Rattle.patch.proofs.point.Goals as goal

pub returns : goal.returns
unfolding point_of
returns c = refl
