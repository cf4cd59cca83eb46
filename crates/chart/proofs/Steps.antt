-- The cases of a search. Assumes nothing.
use mathlib.Core.Path.{◌≡◌, ◌∙◌}
use mathlib.Core.Bool.{Bool, true, false, and-eq-true_iff}
use Prim.Native.Nat.{ℕ}
use lib.Ieee.{Float}
use Rattle.vector3.specs.declared.Vector3.{Vector3}
use Rattle.vector3.specs.Laws.{Finite, vector-finite}
use Rattle.price.specs.Price.{spend}
use Rattle.surface.specs.Surface.{Surface}
use Rattle.inversion.specs.declared.Answer.{Answer}
use Rattle.inversion.specs.Inversion.{inversion_by, answer_of}
use Rattle.chart.specs.declared.Terms.{Terms}
use Rattle.chart.specs.declared.Placing.{Placing}
use Rattle.chart.specs.declared.Placing.TheVariants.{Refusal}
use Rattle.chart.specs.Chart.{sound_search, placing_of, placed_by}

module _ (mark : Vector3) (t : Terms) where
  pub mark-finite : sound_search mark t ≡ true → Finite mark
  unfolding sound_search
  mark-finite h = vector-finite mark ((and-eq-true_iff _ _).0 h).0

  module _ (s : Surface) (budget : ℕ) (m : Float) {b : Bool} (e : b ≡ sound_search mark t) where
    abbrev answer : Placing
    answer = placed_by s m mark t budget (sound_search mark t)

    pub not_sound : b ≡ false → Refusal 7 0 ≡ answer
    unfolding placed_by
    not_sound h = simp (← e, h)

    pub found : b ≡ true → {o : Answer} → o ≡ answer_of (spend budget (inversion_by s m mark t.hint t.tolerance)) → {r : Placing} → r ≡ placing_of budget t o → r ≡ answer
    unfolding placed_by
    found h p q = q ∙ simp (← e, h, p)
