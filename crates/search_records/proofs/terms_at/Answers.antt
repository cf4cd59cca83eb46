-- `search_records::terms_at` meets its contract: each number from its word. Assumes nothing.
use mathlib.Core.Path.{◌≡◌}
use mathlib.Core.List.{List}
use Prim.Native.Nat.{ℕ}
use lib.ListN.{get_or}
use lib.Ieee.{Float}
use Rattle.inversion.specs.declared.Hint.{Hint}
use Rattle.chart.specs.declared.Period.{Period}
use Rattle.chart.specs.declared.Terms.{Terms}
use Rattle.search_records.specs.Search.{hint_by, period_by, float_at, terms_at}
use Rattle.search_records.proofs.terms_at.Goals as goal

terms-are : (ws : List ℕ) {a b t p q : Float} {h : Hint} {u v : Period} → a ≡ float_at ws 1 → b ≡ float_at ws 2 → h ≡ hint_by (get_or ws 0 0) a b
    → p ≡ float_at ws 5 → u ≡ period_by (get_or ws 4 0) p → q ≡ float_at ws 7 → v ≡ period_by (get_or ws 6 0) q → t ≡ float_at ws 3
    → ◌≡◌ {A = Terms} (record { hint = h; tolerance = t; u = u; v = v }) (terms_at ws)
unfolding terms_at
terms-are ws a b h p u q v t = cc

pub returns : goal.returns
returns c =
    terms-are _ c.float.ensures c.float-2.ensures c.hint_of-hint.ensures c.float-3.ensures c.period_of-u.ensures c.float-4.ensures c.period_of-v.ensures c.float-5.ensures
