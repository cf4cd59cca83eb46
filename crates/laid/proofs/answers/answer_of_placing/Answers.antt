use Rattle.laid.specs.Laid.{answer_of_placing}
use Rattle.laid.proofs.answers.answer_of_placing.Goals as goal

pub returns-in-Pair : goal.returns-in-Pair
unfolding answer_of_placing
returns-in-Pair c = simp c.in-Pair.is

pub returns-in-Refusal : goal.returns-in-Refusal
unfolding answer_of_placing
returns-in-Refusal c = simp c.in-Refusal.is
