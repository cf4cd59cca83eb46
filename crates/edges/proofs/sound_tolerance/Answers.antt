use Rattle.edges.specs.Edges.{sound_tolerance}
use Rattle.edges.proofs.sound_tolerance.Goals as goal

pub returns : goal.returns
unfolding sound_tolerance
returns c = rw c.is_finite.ensures
