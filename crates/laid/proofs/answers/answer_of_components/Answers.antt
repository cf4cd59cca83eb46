use Rattle.laid.specs.Laid.{answer_of_components}
use Rattle.laid.proofs.answers.answer_of_components.Goals as goal

pub returns-in-Along : goal.returns-in-Along
unfolding answer_of_components
returns-in-Along c = simp c.in-Along.is

pub returns-in-Refusal : goal.returns-in-Refusal
unfolding answer_of_components
returns-in-Refusal c = simp c.in-Refusal.is
