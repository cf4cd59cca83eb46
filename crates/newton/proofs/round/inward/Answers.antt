-- The code is the definition.
use mathlib.Core.Path.{refl}
use Rattle.newton.specs.Run.{inward}
use Rattle.newton.proofs.round.inward.Goals as goal

pub returns : goal.returns
unfolding inward
returns c = refl
