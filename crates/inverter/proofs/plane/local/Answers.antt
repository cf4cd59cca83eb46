use Rattle.inverter.specs.Plane.{local_of}
use Rattle.inverter.proofs.plane.local.Goals as goal

pub returns : goal.returns
unfolding local_of
returns c = cc
