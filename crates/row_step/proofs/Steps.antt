-- The cases of one mark. Assumes nothing.
use mathlib.Core.Path.{◌≡◌, ap, ◌∙◌}
use mathlib.Core.Bool.{Bool, true, false}
use Prim.Native.Nat.{ℕ, ◌≤◌, ◌-◌}
use native.Mathlib.Omega.{arith}
use lib.Ieee.{Float}
use Rattle.vector3.specs.declared.Vector3.{Vector3}
use Rattle.surface.specs.declared.Checked.TheVariants as Check
use Rattle.surface.specs.Surface.{Surface, checked}
use Rattle.inversion.specs.declared.Choice.{Choice}
use Rattle.inversion.specs.declared.Hint.TheVariants.{Nothing, At}
use Rattle.inversion.specs.Inversion.{within}
use Rattle.chart.specs.declared.Terms.{Terms}
use Rattle.chart.specs.declared.Placing.{Placing}
use Rattle.chart.specs.Chart.{sound_search, placed_by, taken_of}
use Rattle.inverter.specs.Inverter.{on_checked, placed}
use Rattle.inverter.specs.PlacingLaws.{placed-sound}
use Rattle.row_step.specs.declared.Progress.{Progress}
use Rattle.row_step.specs.declared.Stepped.TheVariants.{Placed, Refusal}
use Rattle.row_step.specs.Step.{with_hint, led_by, step_by, stepped}

-- ---- the hint of the next mark

module _ (t : Terms) (c : Choice) {b : Bool} (e : b ≡ within c.end t.tolerance) {r : Terms} where
  pub leads : b ≡ true → r ≡ with_hint t (At c.end.at.u c.end.at.v) → r ≡ led_by t c
  unfolding led_by
  leads h q = q ∙ simp (← e, h)

  pub leads-none : b ≡ false → r ≡ with_hint t Nothing → r ≡ led_by t c
  unfolding led_by
  leads-none h q = q ∙ simp (← e, h)

-- ---- one mark

module _ (s : Surface) (mark : Vector3) (p : Progress) {g : Placing} where
  module _ {m : Float} (h : checked s ≡ Check.Scale m) (q : g ≡ placed_by s m mark p.terms p.left (sound_search mark p.terms)) where
    by-checked : g ≡ placed s mark p.terms p.left
    unfolding placed on_checked
    by-checked = q ∙ simp h

    pub took : {n : ℕ} → taken_of g ≡ n → n ≤ p.left
    took e = omega (arith, ap taken_of by-checked, (placed-sound s mark p.terms p.left).0)

    pub step-refuses : {n t : ℕ} → g ≡ Placing.Refusal n t → Refusal n (p.left - t) ≡ stepped s mark p
    unfolding stepped step_by
    step-refuses e = rw (← by-checked, e)

    pub step-places : {c : Choice} {t : ℕ} → g ≡ Placing.Pair c t → {next : Terms} → next ≡ led_by p.terms c → Placed c (record { terms = next; left = p.left - t }) ≡ stepped s mark p
    unfolding stepped step_by
    step-places e f = rw (← by-checked, e, f)
