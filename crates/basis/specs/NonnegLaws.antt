-- No value of a basis function is below 0. Assumes nothing.
use Rattle.std.specs.Prelude.{◌≡◌, Bool, cond, ◌&&◌, List, ◌∷◌, map, eqb, get_or, Float}
use Rattle.std.proofs.Math.Path.{refl, subst}
use Rattle.std.proofs.Math.Bool.{true, false}
use Prim.Native.Nat.{ℕ, zero, suc, ◌+◌, ◌-◌, ◌≤◌, ◌<◌}
use Rattle.std.proofs.Common.{arith}
use Rattle.std.proofs.Math.Dec.{leb}
use Rattle.std.proofs.Math.ListN.{length}
use Rattle.std.specs.Float.{nan}
use Rattle.std.specs.Float.Ieee.{eq}
use borrow.Author.Tests.{leb-true}
use Rattle.float64.specs.Compute as Float64
use Rattle.float64.specs.Operators.{◌⊖◌, 0·}
use Rattle.float64.specs.Functions.{is_finite}
use Rattle.float64.specs.Order.{le_trans, lt→le}
use Rattle.float64.specs.Nonneg.{Nonneg, finite, zero-nonneg}
use Rattle.spline.specs.Each.{both}
use Rattle.spline.specs.Knots.{Axis, knot, low, high, refusal_of_knots, snapped, span_at}
use Rattle.spline.specs.KnotLaws.{Accepted, accepted}
use Rattle.spline.specs.ParameterLaws.{Inside, snap-inside, Spans, span-holds}
use Rattle.spline.specs.declared.parameter.KnotSide.{KnotSide}
use Rattle.spline.specs.declared.parameter.Snapped.TheVariants.{At}
use Rattle.basis.specs.Basis.{Cell, none, cell, checked, right, blend, zero_cell, unit_cell, N, row, Three, three, Sample, refused, sample, joined, gathered, sample_at, basis_at}
use Rattle.basis.specs.BasisLaws.{support}
use Rattle.basis.specs.Parts.{value_of}
use Rattle.basis.specs.Signs.{NotBelow, Plus, lost, plus, difference-not-below, quotient-not-below, product-not-below, sum-plus}

-- finite, and not below 0: +0 or above
abbrev pub FiniteNonneg : Float → Type 0
FiniteNonneg x = (is_finite x ≡ true) × Nonneg x

-- the value of a cell, if it has one
abbrev Upper : Cell → Type 0
Upper none = Unit {0}
Upper (cell x y z) = FiniteNonneg x

zero-upper : Upper zero_cell
unfolding Float64.compute
zero-upper = (refl, finite _ _)

unit-upper : Upper unit_cell
unfolding Float64.compute
unit-upper = (refl, finite _ _)

-- ---- a step of the recursion

choose : (t : Bool) (c d : Cell) → Upper c → (t ≡ false → Upper d) → Upper (cond t c d)
choose true c d p q = p
choose false c d p q = q refl

checked-upper : {x : Float} → Plus x → (y z : Float) → Upper (checked x y z)
unfolding checked Float64.compute
checked-upper lost y z = tt
checked-upper {x} (plus p) y z = by (is_finite x && is_finite y && is_finite z) refl
  where
    by : (t : Bool) → (is_finite x && is_finite y && is_finite z) ≡ t → Upper (cond t (cell x y z) none)
    by true e = ((both (is_finite x) _ (both (is_finite x && is_finite y) _ e).0).0, p)
    by false e = tt

right-upper : (u n r t : Float) {b0 x : Float} (b1 y z : Float) → NotBelow (t ⊖ u) → NotBelow r → Nonneg b0 → Plus x → Upper (right u n r t b0 b1 x y z)
unfolding right
right-upper u n r t b1 y z T R B X = choose (eq r 0·) _ _ (checked-upper X y z) (λ e. checked-upper (sum-plus X (product-not-below (quotient-not-below T R e) B)) _ _)

zero-plus : Plus 0·
zero-plus = plus zero-nonneg

blend-upper : (ks : List Float) (u : Float) (d i : ℕ) (a b : Cell)
    → NotBelow (u ⊖ get_or ks i nan) → NotBelow (get_or ks (i + d) nan ⊖ get_or ks i nan)
    → NotBelow (get_or ks (i + d + 1) nan ⊖ u) → NotBelow (get_or ks (i + d + 1) nan ⊖ get_or ks (i + 1) nan) → Upper a → Upper b → Upper (blend ks u d i a b)
unfolding blend
blend-upper ks u d i none b S L T R A B = tt
blend-upper ks u d i (cell a0 a1 a2) none S L T R A B = tt
blend-upper ks u d i (cell a0 a1 a2) (cell b0 b1 b2) S L T R A B =
    choose (eq (get_or ks (i + d) nan ⊖ get_or ks i nan) 0·) _ _ (right-upper _ _ _ _ _ _ _ T R B.1 zero-plus)
    (λ e. right-upper _ _ _ _ _ _ _ T R B.1 (sum-plus zero-plus (product-not-below (quotient-not-below S L e) A.1)))

-- ---- the functions at u, in its knot span

module _ (a : Axis) (side : KnotSide) (t u : Float) (h : refusal_of_knots a ≡ 0) (e : snapped (low a) (high a) t ≡ At u) where
  abbrev j : ℕ
  j = span_at a side u

  K : Accepted a
  K = accepted a h

  I : Inside (low a) (high a) u
  I = snap-inside (low a) (high a) (K.finite a.degree (omega (arith, K.count))) (K.finite a.controls (omega (arith, K.count))) (lt→le (low a) (high a) K.wide) t u e

  J : Spans a side u j
  J = span-holds a u h I.from_low I.to_high side

  wide : (i k : ℕ) → i ≤ k → k < length a.knots → NotBelow (knot a k ⊖ knot a i)
  wide i k l m = difference-not-below (knot a i) (knot a k) (K.finite i (omega arith)) (K.finite k m) (K.in_order i k l m)

  -- a knot up to the span's start, and one from its end on
  after : (i : ℕ) → i ≤ j → NotBelow (u ⊖ knot a i)
  after i l =
      let m : j < length a.knots = omega (arith, J.below-controls, K.count) in
      difference-not-below (knot a i) u (K.finite i (omega arith)) I.finite (le_trans (knot a i) (knot a j) u (K.in_order i j l m) J.holds.not-below)

  before : (k : ℕ) → j + 1 ≤ k → k < length a.knots → NotBelow (knot a k ⊖ u)
  before k l m = difference-not-below u (knot a k) I.finite (K.finite k m) (le_trans u (knot a (j + 1)) (knot a k) J.holds.not-above (K.in_order (j + 1) k l m))

  function-upper : (d i : ℕ) → d ≤ a.degree → Upper (N a.knots u j d i)
  unfolding N
  function-upper zero i few = by (eqb i j)
    where
      by : (t : Bool) → Upper (cond t unit_cell zero_cell)
      by true = unit-upper
      by false = zero-upper
  function-upper (suc d) i few = by (leb i j && leb j (i + suc d)) refl (function-upper d i (omega arith)) (function-upper d (suc i) (omega arith))
    where
      by : (t : Bool) → (leb i j && leb j (i + suc d)) ≡ t → Upper (N a.knots u j d i) → Upper (N a.knots u j d (suc i))
          → Upper (cond t (blend a.knots u (suc d) i (N a.knots u j d i) (N a.knots u j d (suc i))) zero_cell)
      by true f A B =
          let z = both (leb i j) (leb j (i + suc d)) f in
          let low = leb-true i j z.0 in
          let high = leb-true j (i + suc d) z.1 in
          let m : i + suc d + 1 < length a.knots = omega (arith, J.below-controls, K.count) in
          blend-upper a.knots u (suc d) i _ _ (after i low) (wide i (i + suc d) (omega arith) (omega arith)) (before (i + suc d + 1) (omega arith) m) (wide (i + 1) (i + suc d + 1) (omega arith) m) A B
      by false f A B = zero-upper

-- ---- a sample

-- the value of the function number k of a sample
abbrev pub value_at : List Three → ℕ → Float
value_at ts k = get_or (map value_of ts) k nan

-- the first n values of a sample, if it is found
abbrev Uppers : ℕ → Sample → Type 0
Uppers n refused = Unit {0}
Uppers n (sample i ts) = (k : ℕ) → k < n → FiniteNonneg (value_at ts k)

joined-upper : (n : ℕ) (c : Cell) (s : Sample) → Upper c → Uppers n s → Uppers (suc n) (joined c s)
unfolding joined
joined-upper n none s C S = tt
joined-upper n (cell x y z) refused C S = tt
joined-upper n (cell x y z) (sample i ts) C S = by
  where
    by : (k : ℕ) → k < suc n → FiniteNonneg (value_at (three x y z ∷ ts) k)
    by zero l = C
    by (suc k) l = S k (omega arith)

module _ (a : Axis) (side : KnotSide) (t : Float) (h : refusal_of_knots a ≡ 0) where
  row-upper : (u : Float) → snapped (low a) (high a) t ≡ At u → (s n i : ℕ) → Uppers n (gathered s (row a.knots u (span_at a side u) a.degree n i))
  unfolding row gathered
  row-upper u e s zero i = λ k l. absurd (omega arith)
  row-upper u e s (suc n) i = joined-upper n _ _ (function-upper a side t u h e a.degree i (omega arith)) (row-upper u e s n (suc i))

  -- no value of a sample is below 0: that of each of its degree + 1 functions is finite, and +0 or above
  pub basis-nonneg : (i : ℕ) (ts : List Three) → basis_at a side t ≡ sample i ts → (k : ℕ) → k ≤ a.degree → FiniteNonneg (value_at ts k)
  unfolding basis_at sample_at
  basis-nonneg i ts f k l =
      let S = support a side t i ts f h in
      let u = S.parameter in
      let p = a.degree in
      subst (Uppers (suc p)) (rw S.snaps at f) (row-upper u S.snaps (span_at a side u - p) (suc p) (span_at a side u - p)) k (omega arith)
