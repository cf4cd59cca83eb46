-- `surface::flags::shape_of` meets its contract, field by field. Assumes nothing.
use mathlib.Core.Path.{refl}
use Rattle.domain.specs.Flags.{shape_of}
use Rattle.domain.proofs.flags.shape_of.Goals as goal

pub returns : goal.returns
unfolding shape_of
returns c = refl
