-- The checks one by one: each refuses, or leaves the surface to the checks after it. Assumes nothing.
use mathlib.Core.Path.{◌≡◌, refl, sym, ◌∙◌}
use mathlib.Core.Bool.{true, false, not, or-true, and-false}
use Prim.Native.Nat.{ℕ, zero, suc, ◌+◌, ◌*◌, ◌/◌, ◌≤◌, ◌<◌, min}
use native.Mathlib.Nat.{zero-mul, mul_comm, pos_of_ne-zero, div-lt_iff_lt-mul, le-div_iff_mul-le}
use native.Mathlib.Omega.{arith}
use lib.ListN.{length}
use lib.Ieee.{Float}
use borrow.Author.Tests.{lt-ltb, le-ltb, eq-eqb, ne_eqb}
use Rattle.spline.specs.declared.weights.Weighed.TheVariants as Weighed
use Rattle.spline.specs.Weights.{weighed, refusal_of}
use Rattle.spline.specs.Knots.{all_finite, refusal_of_knots}
use Rattle.surface.specs.declared.Checked.TheVariants.{Scale, Refusal}
use Rattle.domain.specs.Windows.{misfits}
use Rattle.surface.specs.Surface.{Surface, axis_u, axis_v, domain_of, total, or_else, when, too_large, miscounted, refusal_of_surface, judged, checked}
use Rattle.surface.specs.SurfaceLaws.{scale-is}

-- ---- a product of counts that can't wrap

pub no-product : (a b : ℕ) → a ≡ 0 → 0 ≡ min (a * b) 100001
no-product a b z = rw (z, zero-mul)

module _ (a b : ℕ) (n : a ≡ 0 → ⊥) where
  pub product-over : 100000 / a < b → 100000 < a * b
  product-over h = rw (mul_comm a b) ((div-lt_iff_lt-mul (pos_of_ne-zero n)).0 h)

  pub product-within : b ≤ 100000 / a → a * b ≤ 100000
  product-within h = rw (mul_comm a b) ((le-div_iff_mul-le (pos_of_ne-zero n)).0 h)

-- ---- what is left of the checks

abbrev pub from_window : Surface → ℕ
from_window s = when (misfits s.shape.window (domain_of s)) 24

abbrev pub from_knots_v : Surface → ℕ
from_knots_v s = or_else (refusal_of_knots (axis_v s)) (from_window s)

abbrev pub from_knots_u : Surface → ℕ
from_knots_u s = or_else (refusal_of_knots (axis_u s)) (from_knots_v s)

abbrev pub from_weights : Surface → ℕ
from_weights s = or_else (refusal_of (weighed s.weights)) (from_knots_u s)

abbrev pub from_controls : Surface → ℕ
from_controls s = or_else (when (not (all_finite s.controls)) 3) (from_weights s)

abbrev pub from_counts : Surface → ℕ
from_counts s = or_else (when (miscounted s) 2) (from_controls s)

abbrev pub Leaves : (Surface → ℕ) → Surface → Type 0
Leaves rest s = refusal_of_surface s ≡ rest s

module _ (s : Surface) where
  refused : (r : ℕ) → refusal_of_surface s ≡ r → (r ≡ 0 → ⊥) → Refusal r ≡ checked s
  unfolding checked judged
  refused zero e h = absurd (h refl)
  refused (suc k) e h = rw e

  accepted : (m : Float) → weighed s.weights ≡ Weighed.Scale m → refusal_of_surface s ≡ 0 → Scale m ≡ checked s
  unfolding checked judged
  accepted m w e = rw (e, scale-is s m w)

  first : (r rest : ℕ) → refusal_of_surface s ≡ or_else r rest → (r ≡ 0 → ⊥) → Refusal r ≡ checked s
  unfolding or_else
  first zero rest e h = absurd (h refl)
  first (suc k) rest e h = refused (suc k) e h

  begun : refusal_of_surface s ≡ or_else (when (too_large s) 1) (from_counts s)
  unfolding refusal_of_surface
  begun = refl

  large : too_large s ≡ true → Refusal 1 ≡ checked s
  large h = first 1 _ (rw h at begun) (λ z. omega arith)

  -- p is how many controls there are to be, or one over the limit
  module _ (p : ℕ) (e : p ≡ min (total s) 100001) where
    pub large-controls : 100000 < p → Refusal 1 ≡ checked s
    unfolding too_large
    large-controls h = large (simp (lt-ltb 100000 (total s) (omega arith)))

    pub large-knots : 100034 < length s.knots_u + length s.knots_v → Refusal 1 ≡ checked s
    unfolding too_large
    large-knots h = large (simp (lt-ltb 100034 (length s.knots_u + length s.knots_v) h, or-true))

    pub to-counts : p ≤ 100000 → length s.knots_u + length s.knots_v ≤ 100034 → Leaves from_counts s
    unfolding too_large or_else
    to-counts h k = begun ∙ simp (le-ltb 100000 (total s) (omega arith), le-ltb 100034 (length s.knots_u + length s.knots_v) k)

    -- p is that very number
    module _ (h : p ≤ 100000) (k : Leaves from_counts s) where
      miscounts : miscounted s ≡ true → Refusal 2 ≡ checked s
      miscounts t = first 2 _ (rw t at k) (λ z. omega arith)

      pub miscounted-controls : (length s.controls ≡ 3 * p → ⊥) → Refusal 2 ≡ checked s
      unfolding miscounted
      miscounted-controls n = miscounts (simp (ne_eqb (length s.controls) (3 * total s) (λ q. n (omega arith))))

      pub miscounted-weights : (length s.weights ≡ p → ⊥) → Refusal 2 ≡ checked s
      unfolding miscounted
      miscounted-weights n = miscounts (simp (ne_eqb (length s.weights) (total s) (λ q. n (omega arith)), and-false))

      pub to-controls : length s.controls ≡ 3 * p → length s.weights ≡ p → Leaves from_controls s
      unfolding miscounted or_else
      to-controls c w = k ∙ simp (eq-eqb (length s.controls) (3 * total s) (omega arith), eq-eqb (length s.weights) (total s) (omega arith))

  module _ (k : Leaves from_controls s) where
    pub not_finite : all_finite s.controls ≡ false → Refusal 3 ≡ checked s
    not_finite f = first 3 _ (rw f at k) (λ z. omega arith)

    pub to-weights : all_finite s.controls ≡ true → Leaves from_weights s
    unfolding or_else
    to-weights f = rw f at k

  module _ (k : Leaves from_weights s) where
    pub refused-weights : weighed s.weights ≡ Weighed.Refused → Refusal 4 ≡ checked s
    unfolding refusal_of
    refused-weights e = first 4 _ (rw e at k) (λ z. omega arith)

    pub to-knots : (m : Float) → weighed s.weights ≡ Weighed.Scale m → Leaves from_knots_u s
    unfolding refusal_of or_else
    to-knots m e = rw e at k

  module _ (r : ℕ) (k : Leaves from_knots_u s) (e : r ≡ refusal_of_knots (axis_u s)) where
    pub refused-u : (r ≡ 0 → ⊥) → Refusal r ≡ checked s
    refused-u n = first r _ (rw (sym e) at k) n

    pub to-knots-v : r ≡ 0 → Leaves from_knots_v s
    unfolding or_else
    to-knots-v z = rw (sym e, z) at k

  module _ (r : ℕ) (k : Leaves from_knots_v s) (e : r ≡ refusal_of_knots (axis_v s)) where
    pub refused-v : (r ≡ 0 → ⊥) → Refusal r ≡ checked s
    refused-v n = first r _ (rw (sym e) at k) n

    pub to-window : r ≡ 0 → Leaves from_window s
    unfolding or_else
    to-window z = rw (sym e, z) at k

  module _ (k : Leaves from_window s) where
    pub refused-window : misfits s.shape.window (domain_of s) ≡ true → Refusal 24 ≡ checked s
    refused-window t = refused 24 (rw t at k) (λ z. omega arith)

    pub accepted-window : (m : Float) → weighed s.weights ≡ Weighed.Scale m → misfits s.shape.window (domain_of s) ≡ false → Scale m ≡ checked s
    accepted-window m w t = accepted m w (rw t at k)
