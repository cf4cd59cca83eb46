-- The counts after a record. Definitions only.
use Rattle.std.specs.Prelude.{ℕ, ◌+◌, ◌%◌, ◌^◌, cond, List, replicate, nat_lt, slice_index, slice_set}
use Rattle.tally.specs.declared.Comparison.{Comparison}
use Rattle.tally.specs.declared.Comparison.TheVariants.{Answers, Unread}
use Rattle.tally.specs.declared.Tally.{Tally}

abbrev pub empty : Tally
empty = record { agree = replicate 22 0; differ = replicate 22 0; unread = 0 }

abbrev pub sum : ℕ → ℕ → ℕ
sum a b = (a + b) % 2 ^ 64

-- n more at index k
abbrev pub more : List ℕ → ℕ → ℕ → List ℕ
more xs k n = slice_set xs k (sum (slice_index xs k) n)

abbrev pub one_unread : Tally → Tally
one_unread t = record { agree = t.agree; differ = t.differ; unread = sum t.unread 1 }

unfoldable pub tallied : ℕ → Comparison → Tally → Tally
tallied kind Unread t = one_unread t
tallied kind (Answers a d) t =
    cond (nat_lt 21 kind) (one_unread t)
    (record { agree = more t.agree kind a; differ = more t.differ kind d; unread = t.unread })
