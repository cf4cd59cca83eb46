use Rattle.std.proofs.Common.{◌∙◌, ne_eqb}
use Rattle.answers.proofs.Lists.{same_pairs, uneven}
use Rattle.answers.proofs.same_list.Goals as goal

pub returns-then-numbers-words : goal.returns-then-numbers-words
returns-then-numbers-words c = c.same_pairs.ensures ∙ same_pairs _ _ c.if-numbers-words.true

pub returns-else-numbers-words : goal.returns-else-numbers-words
returns-else-numbers-words c = ne_eqb _ _ c.if-numbers-words.false ∙ uneven _ _ c.if-numbers-words.false
