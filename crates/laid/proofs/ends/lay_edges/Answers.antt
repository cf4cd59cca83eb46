use Rattle.laid.proofs.EndSteps.{told-refusal, told-found}
use Rattle.laid.proofs.ends.lay_edges.Goals as goal

pub returns-in-Refusal : goal.returns-in-Refusal
returns-in-Refusal c = told-refusal _ _ c.in-Refusal.is

pub returns-in-Found : goal.returns-in-Found
returns-in-Found c =
    let nu = c in
    let fl = nu in
    told-found _ _ fl.in-Found.is fl.lay_flags.ensures nu.lay_numbers.ensures
