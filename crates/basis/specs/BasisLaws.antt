-- Laws of a basis: which controls a sample touches, that its numbers are finite, and that a parameter counts as it snaps. Assumes nothing.
use Rattle.std.specs.Prelude.{◌≡◌, Bool, true, false, cond, ◌&&◌, List, eqb, length, Float}
use Rattle.std.proofs.Math.Path.{refl}
use Rattle.std.proofs.Common.{sym, ap, ◌∙◌, subst, arith, leb-true, ne_eqb}
use Rattle.std.proofs.Math.Bool.{and-eq-true_iff}
use Prim.Native.Nat.{ℕ, zero, suc, ◌+◌, ◌-◌, ◌≤◌, ◌<◌}
use Rattle.std.proofs.Math.Dec.{leb}
use Rattle.std.proofs.Math.ListN.{get_or}
use Rattle.std.specs.Float.Ieee.{nan, eq}
use Rattle.float64.specs.Compute as Float64
use Rattle.float64.specs.Operators.{◌⊖◌, 0·}
use Rattle.float64.specs.Functions.{is_finite}
use Rattle.float64.specs.Order.{never}
use Rattle.spline.specs.Knots.{Axis, low, high, refusal_of_knots, snapped, span_at}
use Rattle.spline.specs.KnotLaws.{accepted}
use Rattle.spline.specs.declared.parameter.KnotSide.{KnotSide}
use Rattle.spline.specs.declared.parameter.Snapped.{Snapped}
use Rattle.spline.specs.declared.parameter.Snapped.TheVariants.{At, Outside}
use Rattle.basis.specs.declared.Basis.{Basis}
use Rattle.basis.specs.Basis.{Cell, none, cell, checked, right, blend, zero_cell, N, row, Three, Sample, refused, sample, finite_threes, joined, gathered, sample_at, basis_at, threes, shown}

pub bounds : (a : Axis) (side : KnotSide) (u : Float) (j : ℕ) → a.degree < a.controls → j ≡ span_at a side u → (a.degree ≤ j) × (j < a.controls)
unfolding span_at
bounds a side u j h e = (omega arith, omega arith)

-- a function is 0 where the span is not in its support
pub outside : (ks : List Float) (u : Float) (j d i : ℕ) → (i ≤ j → j ≤ i + d → ⊥) → N ks u j d i ≡ zero_cell
unfolding N
outside ks u j zero i f = rw (ne_eqb i j (λ e. f (omega arith) (omega arith)))
outside ks u j (suc d) i f =
    rw (never (leb i j && leb j (i + suc d)) (λ h. let z = (and-eq-true_iff (leb i j) (leb j (i + suc d))).0 h in f (leb-true i j z.0) (leb-true j (i + suc d) z.1)))

-- ---- finite numbers

-- the numbers of a cell, if it has any
abbrev finite_cell : Cell → Bool
finite_cell none = true
finite_cell (cell x y z) = is_finite x && is_finite y && is_finite z

either : (b : Bool) (c d : Cell) → finite_cell c ≡ true → finite_cell d ≡ true → finite_cell (cond b c d) ≡ true
either true c d p q = p
either false c d p q = q

checked-finite : (x y z : Float) → finite_cell (checked x y z) ≡ true
unfolding checked
checked-finite x y z = by (is_finite x && is_finite y && is_finite z) refl
  where
    by : (b : Bool) → (is_finite x && is_finite y && is_finite z) ≡ b → finite_cell (cond b (cell x y z) none) ≡ true
    by true e = e
    by false e = refl

right-finite : (u d r t b0 b1 x y z : Float) → finite_cell (right u d r t b0 b1 x y z) ≡ true
unfolding right
right-finite u d r t b0 b1 x y z = either (eq r 0·) _ _ (checked-finite _ _ _) (checked-finite _ _ _)

module _ (ks : List Float) (u : Float) where
  blend-finite : (d i : ℕ) (b c : Cell) → finite_cell (blend ks u d i b c) ≡ true
  unfolding blend
  blend-finite d i none c = refl
  blend-finite d i (cell a0 a1 a2) none = refl
  blend-finite d i (cell a0 a1 a2) (cell b0 b1 b2) = either (eq (get_or ks (i + d) nan ⊖ get_or ks i nan) 0·) _ _ (right-finite _ _ _ _ _ _ _ _ _) (right-finite _ _ _ _ _ _ _ _ _)

  function-finite : (j d i : ℕ) → finite_cell (N ks u j d i) ≡ true
  unfolding N Float64.compute
  function-finite j zero i = either (eqb i j) _ _ refl refl
  function-finite j (suc d) i = either (leb i j && leb j (i + suc d)) _ _ (blend-finite (suc d) i (N ks u j d i) (N ks u j d (suc i))) refl

-- ---- a sample's start, count and numbers

abbrev Sound : ℕ → ℕ → Sample → Type 0
Sound i n refused = Unit {0}
Sound i n (sample k ts) = (k ≡ i) × (length ts ≡ n) × (finite_threes ts ≡ true)

sound-joined : (i n : ℕ) (c : Cell) (s : Sample) → finite_cell c ≡ true → Sound i n s → Sound i (suc n) (joined c s)
unfolding joined finite_threes
sound-joined i n none s f h = tt
sound-joined i n (cell x y z) refused f h = tt
sound-joined i n (cell x y z) (sample k ts) f h = (h.0, ap suc h.1, simp (f, h.2))

sound-gathered : (ks : List Float) (u : Float) (s j d k i : ℕ) → Sound s k (gathered s (row ks u j d k i))
unfolding gathered row finite_threes
sound-gathered ks u s j d zero i = (refl, refl, refl)
sound-gathered ks u s j d (suc k) i = sound-joined s k (N ks u j d i) (gathered s (row ks u j d k (suc i))) (function-finite ks u j d i) (sound-gathered ks u s j d k (suc i))

record Answer (a : Axis) (side : KnotSide) (s : Snapped) (i : ℕ) (ts : List Three) : Type 0 where
  parameter : Float
  snaps : s ≡ At parameter
  sound : Sound (span_at a side parameter - a.degree) (suc a.degree) (sample i ts)

answered : (a : Axis) (side : KnotSide) (s : Snapped) (i : ℕ) (ts : List Three) → sample_at a side s ≡ sample i ts → Answer a side s i ts
unfolding sample_at
answered a side Outside i ts h = let z : ◌≡◌ {A = ℕ} 0 1 = cc in absurd (omega arith)
answered a side (At u) i ts h = record {
  parameter = u;
  snaps = refl;
  sound = subst (Sound (span_at a side u - a.degree) (suc a.degree)) h (sound-gathered a.knots u _ (span_at a side u) a.degree (suc a.degree) _);
}

-- The functions of a sample are degree + 1 from span - degree on, and no other control counts.
pub record Support (a : Axis) (side : KnotSide) (t : Float) (i : ℕ) (ts : List Three) : Type 0 where
  pub parameter : Float
  pub snaps : snapped (low a) (high a) t ≡ At parameter
  pub start : i ≡ span_at a side parameter - a.degree
  pub count : length ts ≡ a.degree + 1
  pub below : i + a.degree < a.controls

module _ (a : Axis) (side : KnotSide) (t : Float) (i : ℕ) (ts : List Three) (e : basis_at a side t ≡ sample i ts) where
  answer : Answer a side (snapped (low a) (high a) t) i ts
  unfolding basis_at
  answer = answered a side (snapped (low a) (high a) t) i ts e

  pub support : refusal_of_knots a ≡ 0 → Support a side t i ts
  support h =
      let k = answer in
      let b = bounds a side k.parameter (span_at a side k.parameter) (accepted a h).degree-below refl in
      record { parameter = k.parameter; snaps = k.snaps; start = k.sound.0; count = omega (arith, k.sound.1); below = omega (arith, k.sound.0) }

  pub sample-finite : finite_threes ts ≡ true
  sample-finite = answer.sound.2

-- a basis that is found touches controls only
pub start-below : (a : Axis) (side : KnotSide) (t : Float) (b : Basis) → refusal_of_knots a ≡ 0 → shown a.degree b ≡ basis_at a side t → b.found ≡ true
    → b.start + a.degree < a.controls
unfolding shown
start-below a side t b h e f = (support a side t b.start (threes b (suc a.degree) 0) (sym e ∙ simp f) h).below

pub by-snapped : (a : Axis) (side : KnotSide) (t u : Float) → snapped (low a) (high a) t ≡ snapped (low a) (high a) u → basis_at a side t ≡ basis_at a side u
unfolding basis_at
by-snapped a side t u e = ap (sample_at a side) e
