-- Controls and weights outside of the patch change nothing of an evaluation. Assumes nothing.
use Rattle.std.specs.Prelude.{◌≡◌, List, ℕ, ◌<◌, get_or, Float}
use Rattle.std.proofs.Math.Path.{refl}
use Rattle.std.specs.Float.{nan}
use Rattle.basis.specs.Basis.{Three, Sample, refused, sample}
use Rattle.patch.specs.Patch.{empty_sums}
use Rattle.domain.specs.declared.Shape.{Shape}
use Rattle.net.specs.Sums.{rows_of, columns_of, control_at, number_in, heaviest}
use Rattle.surface.specs.Surface.{Surface, surface, refusal_of_surface, scale_of, sums, blended, sample_u, sample_v, evaluate_by, evaluated_by, evaluated}
use Rattle.net.specs.NetLaws.{over-part}
use Rattle.surface.specs.NumberLaws.{check-scale}

-- Two lists of controls and two of weights agree on the patch that starts at a row and a column: on degree + 1 rows and columns of the net.
pub record SamePatch (shape : Shape) (row column : ℕ) (cs cs' ws ws' : List Float) : Type 0 where
  pub controls : (i j : ℕ) → i < rows_of shape → j < columns_of shape → control_at cs (number_in shape row column i j) ≡ control_at cs' (number_in shape row column i j)
  pub weights : (i j : ℕ) → i < rows_of shape → j < columns_of shape → get_or ws (number_in shape row column i j) nan ≡ get_or ws' (number_in shape row column i j) nan

-- the shape and knots of a surface with other controls and weights
abbrev pub with_net : Surface → List Float → List Float → Surface
with_net s cs ws = surface s.shape s.knots_u s.knots_v cs ws

module _ (s : Surface) (cs ws : List Float) where
  module _ (m : Float) (row column : ℕ) (same : SamePatch s.shape row column s.controls cs s.weights ws) where
    same-heaviest : heaviest s.shape row column s.weights m ≡ heaviest s.shape row column ws m
    unfolding heaviest
    same-heaviest = over-part (λ t. t) s.shape _ _ (λ i j a b t. rw (same.weights i j a b)) _

    same-sums : (us vs : List Three) → sums s m row column us vs ≡ sums (with_net s cs ws) m row column us vs
    unfolding sums
    same-sums us vs = over-part (λ t. t) s.shape _ _ (λ i j a b t. rw (same-heaviest, same.weights i j a b, same.controls i j a b)) empty_sums

  -- they agree on the patch of the functions that are found at two parameters
  abbrev pub AgreeAt : Float → Float → Type 0
  AgreeAt x y =
      (row column : ℕ) (us vs : List Three) → sample_u s x ≡ sample row us → sample_v s y ≡ sample column vs → SamePatch s.shape row column s.controls cs s.weights ws

  module _ (x y : Float) (agree : AgreeAt x y) where
    -- by one number m for the largest weight
    pub locality : (m : Float) → evaluate_by s m x y ≡ evaluate_by (with_net s cs ws) m x y
    unfolding evaluate_by blended
    locality m = by (sample_u s x) (sample_v s y) refl refl
      where
        by : (p q : Sample) → sample_u s x ≡ p → sample_v s y ≡ q → blended s m p q ≡ blended (with_net s cs ws) m p q
        by refused q e f = refl
        by (sample i us) refused e f = refl
        by (sample i us) (sample j vs) e f = rw (same-sums m i j (agree i j us vs e f) us vs)

    -- `evaluate` answers the same for two surfaces that are accepted and have one largest weight
    pub evaluate-locality : refusal_of_surface s ≡ 0 → refusal_of_surface (with_net s cs ws) ≡ 0 → scale_of s ≡ scale_of (with_net s cs ws)
        → evaluated s x y ≡ evaluated (with_net s cs ws) x y
    unfolding evaluated evaluated_by
    evaluate-locality a b e = rw (check-scale s a, check-scale (with_net s cs ws) b, ← e, locality (scale_of s))
