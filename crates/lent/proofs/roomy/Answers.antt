use mathlib.Core.Path.{refl}
use Rattle.lent.specs.Lent.{roomy}
use Rattle.lent.proofs.roomy.Goals as goal

pub returns : goal.returns
unfolding roomy
returns c = refl
