-- What `solve` says of five products.
use Rattle.newton.specs.Run.{step_of}
use Rattle.newton.proofs.round.step_of.Goals as goal

pub returns : goal.returns
unfolding step_of
returns c = cc
