-- The cases of the calls. Assumes nothing.
use mathlib.Core.Path.{◌≡◌, refl, ◌∙◌}
use mathlib.Core.Bool.{Bool, true, false}
use Prim.Native.Nat.{ℕ, zero, suc}
use native.Mathlib.Omega.{arith}
use lib.Ieee.{Float}
use Rattle.surface.specs.declared.Checked.{Checked}
use Rattle.surface.specs.declared.Checked.TheVariants as Check
use Rattle.surface.specs.Surface.{Surface, refusal_of_surface, checked}
use Rattle.surface.specs.NumberLaws.{check-scale}
use Rattle.inverter.specs.declared.Components.{Components}
use Rattle.inverter.specs.declared.Components.TheVariants.{Refusal}
use Rattle.inverter.specs.Inverter.{on_checked, charged}

-- ---- the surface's checks, whatever is done on a surface that passes

module _ {A : Type 0} (refuse : ℕ → A) (f : Float → A) {c : Checked} where
  pub refused : {n : ℕ} → c ≡ Check.Refusal n → refuse n ≡ on_checked refuse c f
  unfolding on_checked
  refused h = rw h

  pub passed : {m : Float} → c ≡ Check.Scale m → {r : A} → r ≡ f m → r ≡ on_checked refuse c f
  unfolding on_checked
  passed h q = q ∙ rw h

pub unrefused : (s : Surface) → refusal_of_surface s ≡ 0 → {n : ℕ} → checked s ≡ Check.Refusal n → ⊥
unrefused s ok h = let z : ◌≡◌ {A = ℕ} 0 1 = cc (check-scale s ok) in omega arith

-- ---- a call of one unit

module _ {b sound : Bool} (e : b ≡ sound) (p : Components) where
  pub unsound : (budget : ℕ) → b ≡ false → Refusal 7 0 ≡ charged sound budget p
  unfolding charged
  unsound budget h = simp (← e, h)

  pub unpaid : (budget : ℕ) → b ≡ true → budget ≡ 0 → Refusal 8 0 ≡ charged sound budget p
  unfolding charged
  unpaid budget h z = simp (← e, h, z)

  pub paid : (budget : ℕ) → b ≡ true → (budget ≡ 0 → ⊥) → {r : Components} → r ≡ p → r ≡ charged sound budget p
  unfolding charged
  paid zero h n q = absurd (n refl)
  paid (suc k) h n q = q ∙ simp (← e, h)
