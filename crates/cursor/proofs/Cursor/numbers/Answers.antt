-- `Cursor::numbers` meets its contract: it takes as many words as its first one says. Assumes nothing.
use mathlib.Core.Path.{◌∙◌}
use Rattle.cursor.specs.Cursors.{numbers_at}
use Rattle.cursor.proofs.Cursor.numbers.Goals as goal

pub returns : goal.returns
unfolding numbers_at
returns c = record { value = c.take.ensures.value ∙ simp c.word-count.ensures.value; within = c.take.ensures.within }
