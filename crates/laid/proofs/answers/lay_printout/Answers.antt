use Rattle.laid.proofs.Steps.{laid-text}
use Rattle.laid.proofs.answers.lay_printout.Goals as goal

pub returns : goal.returns
returns c =
    let pu = c in
    laid-text _ pu.requires.1 pu.put.ensures
