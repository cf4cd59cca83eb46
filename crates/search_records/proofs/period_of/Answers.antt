use mathlib.Core.Path.{◌≡◌, refl}
use Prim.Native.Nat.{ℕ, zero, suc}
use lib.Ieee.{Float}
use Rattle.chart.specs.declared.Period.TheVariants.{Every}
use Rattle.search_records.specs.Search.{period_by}
use Rattle.search_records.proofs.period_of.Goals as goal

given : (n : ℕ) (p : Float) → (n ≡ 0 → ⊥) → Every p ≡ period_by n p
unfolding period_by
given zero p h = absurd (h refl)
given (suc k) p h = refl

pub returns-then-given-eq0 : goal.returns-then-given-eq0
unfolding period_by
returns-then-given-eq0 c = simp c.if-given-eq0.true

pub returns : goal.returns
returns c = given _ _ c.if-given-eq0.false
