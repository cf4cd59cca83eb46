use mathlib.Core.Path.{◌≡◌, refl}
use Prim.Native.Nat.{ℕ, zero, suc}
use lib.Ieee.{Float}
use Rattle.inversion.specs.declared.Hint.TheVariants.{At}
use Rattle.search_records.specs.Search.{hint_by}
use Rattle.search_records.proofs.hint_of.Goals as goal

given : (n : ℕ) (u v : Float) → (n ≡ 0 → ⊥) → At u v ≡ hint_by n u v
unfolding hint_by
given zero u v h = absurd (h refl)
given (suc k) u v h = refl

pub returns-then-given-eq0 : goal.returns-then-given-eq0
unfolding hint_by
returns-then-given-eq0 c = simp c.if-given-eq0.true

pub returns : goal.returns
returns c = given _ _ _ c.if-given-eq0.false
