use mathlib.Core.Path.{refl}
use Rattle.lent.specs.Lent.{roomy_edges}
use Rattle.lent.proofs.roomy_edges.Goals as goal

pub returns : goal.returns
unfolding roomy_edges
returns c = refl
