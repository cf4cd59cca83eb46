use mathlib.Core.Path.{refl}
use Rattle.lent.specs.Lent.{roomy_row}
use Rattle.lent.proofs.roomy_row.Goals as goal

pub returns : goal.returns
unfolding roomy_row
returns c = refl
