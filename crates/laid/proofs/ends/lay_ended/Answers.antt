use Rattle.laid.proofs.EndSteps.{ended-placed, ended-refused}
use Rattle.laid.proofs.ends.lay_ended.Goals as goal

pub returns-in-Placed : goal.returns-in-Placed
returns-in-Placed c =
    let p = ended-placed c.args.budget.now c.args.index.now c.requires.0 c.requires.1 c.in-Placed.is in
    record { value = p.0; budget_after = p.1.0; index_after = p.1.1 }

pub returns-in-Refusal : goal.returns-in-Refusal
returns-in-Refusal c =
    let p = ended-refused c.args.budget.now c.args.index.now c.requires.0 c.requires.1 c.in-Refusal.is in
    record { value = p.0; budget_after = p.1.0; index_after = p.1.1 }
