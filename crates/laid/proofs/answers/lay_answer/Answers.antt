use Rattle.laid.proofs.Steps.{laid-refusal, laid-pair}
use Rattle.laid.proofs.answers.lay_answer.Goals as goal

pub overflow_sub-budget : goal.overflow_sub-budget
overflow_sub-budget c = rw c.in-Pair.is at c.requires.2

pub overflow_sub-budget-in-Refusal : goal.overflow_sub-budget-in-Refusal
overflow_sub-budget-in-Refusal c = rw c.in-Refusal.is at c.requires.2

pub returns-in-Pair : goal.returns-in-Pair
returns-in-Pair c = let at = c in laid-pair _ _ at.requires.0 at.requires.1 c.in-Pair.is

pub returns-in-Refusal : goal.returns-in-Refusal
returns-in-Refusal c = let at = c in laid-refusal _ _ at.requires.0 c.in-Refusal.is
