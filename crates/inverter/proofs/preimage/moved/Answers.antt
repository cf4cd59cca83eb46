use Rattle.inverter.specs.Preimage.{moved}
use Rattle.inverter.proofs.preimage.moved.Goals as goal

pub returns : goal.returns
unfolding moved
returns c = cc
