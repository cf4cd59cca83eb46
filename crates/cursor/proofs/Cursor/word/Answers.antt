-- `Cursor::word` meets its contract: it is the word of a part of one. Assumes nothing.
use mathlib.Core.Path.{sym}
use native.Mathlib.Omega.{arith}
use borrow.Author.Tests.{lt-ltb, le-ltb}
use Rattle.cursor.specs.Cursors.{word_at}
use Rattle.cursor.proofs.Cursor.word.Goals as goal

pub returns-then-from-part : goal.returns-then-from-part
unfolding word_at
returns-then-from-part c = record { value = simp (sym c.take-part.ensures.value, lt-ltb _ _ c.if-from-part.true); at_in_bounds = omega arith }

pub returns : goal.returns
unfolding word_at
returns c = record { value = simp (sym c.take-part.ensures.value, le-ltb _ _ c.if-from-part.false); at_in_bounds = omega arith }
