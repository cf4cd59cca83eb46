-- What a cursor takes of a record. Definitions only.
use Rattle.std.specs.Prelude.{◌≡◌, true, false, cond, ◌&&◌, List, ℕ, ◌+◌, ◌≤◌, leb, ltb, length, get_or}
use Rattle.cursor.specs.declared.Cursor.{Cursor}
use Rattle.cursor.specs.declared.Part.{Part}
use Rattle.cursor.specs.declared.Word.{Word}

-- a part of `size` words, and the cursor after it
pub record Within (size : ℕ) (p : Part) : Type 0 where
  pub ordered : p.from ≤ p.to
  pub inside : p.to ≤ size
  pub after : p.next.at ≡ p.to

abbrev pub nothing : Part
nothing = record { from = 0; to = 0; next = record { at = 0; sound = false } }

-- the next n of `size` words
unfoldable pub taken : ℕ → ℕ → Cursor → Part
taken n size c =
    cond (c.sound && leb (c.at + n) size)
    (record { from = c.at; to = c.at + n; next = record { at = c.at + n; sound = true } })
    nothing

unfoldable pub word_at : List ℕ → Cursor → Word
word_at ws c =
    let p = taken 1 (length ws) c in
    record { value = cond (ltb p.from p.to) (get_or ws p.from 0) 0; next = p.next }

-- a count, then as many words
unfoldable pub numbers_at : List ℕ → Cursor → Part
numbers_at ws c = let w = word_at ws c in taken w.value (length ws) w.next
