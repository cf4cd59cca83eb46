-- The two answers of the checks, as an evaluation of any input tells them. Assumes nothing.
use mathlib.Core.Path.{◌≡◌, ◌∙◌}
use Prim.Native.Nat.{ℕ}
use lib.Ieee.{Float}
use Rattle.patch.specs.declared.Evaluated.{Evaluated}
use Rattle.surface.specs.declared.Checked.{Checked}
use Rattle.surface.specs.declared.Checked.TheVariants as Check
use Rattle.surface.specs.declared.Evaluation.{Evaluation}
use Rattle.surface.specs.declared.Evaluation.TheVariants.{Refusal}
use Rattle.surface.specs.Surface.{Surface, checked, evaluate_by, or_nine, evaluated_by, evaluated}

module _ (s : Surface) (x y : Float) {c : Checked} (e : c ≡ checked s) where
  pub told-refusal : {n : ℕ} → c ≡ Check.Refusal n → Refusal n ≡ evaluated s x y
  unfolding evaluated evaluated_by
  told-refusal h = simp (← e, h)

  pub told-scale : {m : Float} → c ≡ Check.Scale m → {j : Evaluated} → j ≡ evaluate_by s m x y → {r : Evaluation} → r ≡ or_nine j → r ≡ evaluated s x y
  unfolding evaluated evaluated_by
  told-scale h ej er = er ∙ simp (← e, h, ej)
