-- The recursion of The NURBS Book as it stands there, with no word of a support, is `N` wherever its numbers are finite. Assumes nothing.
use Rattle.std.specs.Prelude.{◌≡◌, ◌⊎◌, Bool, ◌&&◌, List, eqb, pos, get_or, Float}
use Rattle.std.proofs.Math.Path.{refl}
use Rattle.std.proofs.Common.{sym, ◌∙◌, inl, true≢false, arith, le-leb}
use Rattle.std.proofs.Math.Logic.{inr, ⊎_elim}
use Rattle.std.proofs.Math.Bool.{true, false, cond}
use Prim.Native.Nat.{ℕ, zero, suc, ◌+◌, ◌≤◌}
use Rattle.std.proofs.Math.Dec.{leb}
use Rattle.std.specs.Float.{nan, fin}
use Rattle.std.specs.Float.Ieee.{sub, eq}
use Rattle.float64.specs.Compute as Float64
use Rattle.float64.specs.Operators.{◌⊕◌, ◌⊖◌, ◌⊗◌, ◌⊘◌, 0·}
use Rattle.spline.specs.Knots.{Axis, low, high, refusal_of_knots, snapped, span_at}
use Rattle.spline.specs.KnotLaws.{accepted}
use Rattle.spline.specs.declared.parameter.KnotSide.{KnotSide}
use Rattle.spline.specs.declared.parameter.Snapped.TheVariants.{At}
use Rattle.basis.specs.Basis.{Cell, none, cell, checked, right, blend, zero_cell, unit_cell, N}
use Rattle.basis.specs.BasisLaws.{outside}
use Rattle.basis.specs.Magnitude.{Span, Bounded, blank-mag, cell-found, axis-span}
use Rattle.basis.specs.Signs.{Nought, missing, nothing, zero-nought, nought-mul, nought-div, nought-neg}

-- equations 2.5 and 2.9 at every index, for u in the knot span j
unfoldable pub plain : List Float → Float → ℕ → ℕ → ℕ → Cell
plain ks u j zero i = cond (eqb i j) unit_cell zero_cell
plain ks u j (suc d) i = blend ks u (suc d) i (plain ks u j d i) (plain ks u j d (suc i))

-- ---- a step whose two functions are 0

-- +0, or a NaN
data Clear : Float → Type 0 where
  lost : Clear nan
  clear : Clear (fin false 0 (pos 0))

zero_clear : Clear 0·
unfolding Float64.compute
zero_clear = clear

plus : {x z : Float} → Clear x → Nought z → Clear (x ⊕ z)
unfolding Float64.compute
plus lost n = lost
plus clear missing = lost
plus clear (nothing false) = clear
plus clear (nothing true) = clear

minus : {x z : Float} → Clear x → Nought z → Clear (x ⊖ z)
unfolding sub
minus c n = plus c (nought-neg n)

abbrev Empty : Cell → Type 0
Empty c = (c ≡ none) ⊎ (c ≡ zero_cell)

empty-checked : {x y z : Float} → Clear x → Clear y → Clear z → Empty (checked x y z)
unfolding checked Float64.compute
empty-checked lost q r = inl refl
empty-checked clear lost r = inl refl
empty-checked clear clear lost = inl refl
empty-checked clear clear clear = inr refl

empty-cond : (b : Bool) (c d : Cell) → Empty c → Empty d → Empty (cond b c d)
empty-cond true c d p q = p
empty-cond false c d p q = q

-- what a function that is 0 adds to a value, q its factor, and to a derivative, w its width and n the degree
term : (q : Float) → Nought (q ⊗ 0·)
term q = nought-mul q zero-nought

slope : (n w : Float) → Nought (n ⊗ (0· ⊘ w))
slope n w = nought-mul n (nought-div zero-nought w)

empty_right : (u n r t : Float) {x y z : Float} → Clear x → Clear y → Clear z → Empty (right u n r t 0· 0· x y z)
unfolding right
empty_right u n r t p q s = empty-cond (eq r 0·) _ _ (empty-checked p q s) (empty-checked (plus p (term _)) (minus q (slope n r)) (minus s (slope n r)))

empty-blend : (ks : List Float) (u : Float) (d i : ℕ) → Empty (blend ks u d i zero_cell zero_cell)
unfolding blend
empty-blend ks u d i =
    let z = zero_clear in
    empty-cond (eq (get_or ks (i + d) nan ⊖ get_or ks i nan) 0·) _ _ (empty_right _ _ _ _ z z z) (empty_right _ _ _ _ (plus z (term _)) (plus z (slope _ _)) (plus z (slope _ _)))

-- ---- the laws

module _ (ks : List Float) (u : Float) (j : ℕ) where
  abbrev step : ℕ → ℕ → Cell
  step d i = blend ks u (suc d) i (N ks u j d i) (N ks u j d (suc i))

  -- outside of the support both functions of a step are 0
  far : (d i : ℕ) → (leb i j && leb j (i + suc d)) ≡ false → step d i ≡ blend ks u (suc d) i zero_cell zero_cell
  far d i e =
      let no : i ≤ j → j ≤ i + suc d → ⊥ = λ l m. true≢false (sym (simp (le-leb i j l, le-leb j (i + suc d) m)) ∙ e) in
      rw (outside ks u j d i (λ l m. no l (omega arith)), outside ks u j d (suc i) (λ l m. no (omega arith) (omega arith)))

  -- the book's function, which knows no support, is refused or is `N`
  pub book : (d i : ℕ) → (plain ks u j d i ≡ none) ⊎ (plain ks u j d i ≡ N ks u j d i)
  unfolding plain N blend
  book zero i = inr refl
  book (suc d) i = by (plain ks u j d i) (plain ks u j d (suc i)) (book d i) (book d (suc i))
    where
      broken : (c : Cell) → blend ks u (suc d) i c none ≡ none
      broken none = refl
      broken (cell x y z) = refl

      split : (b : Bool) → (leb i j && leb j (i + suc d)) ≡ b → (step d i ≡ none) ⊎ (step d i ≡ cond b (step d i) zero_cell)
      split true e = inr refl
      split false e = rw (far d i e) (empty-blend ks u (suc d) i)

      by : (a b : Cell) → (a ≡ none) ⊎ (a ≡ N ks u j d i) → (b ≡ none) ⊎ (b ≡ N ks u j d (suc i)) → (blend ks u (suc d) i a b ≡ none) ⊎ (blend ks u (suc d) i a b ≡ N ks u j (suc d) i)
      by a b (inl e) q = inl (rw e refl)
      by a b (inr e) (inl f) = inl (rw f (broken a))
      by a b (inr e) (inr f) = rw (e, f) (split (leb i j && leb j (i + suc d)) refl)

module _ {g c r : ℕ} {ks : List Float} {u : Float} {j p : ℕ} (S : Span g c r ks u j p) where
  book-span : (d i : ℕ) → d ≤ 16 → d ≤ p → i + d ≤ j + p → plain ks u j d i ≡ N ks u j d i
  unfolding plain N
  book-span zero i few reach low = refl
  book-span (suc d) i few reach low =
      rw (book-span d i (omega arith) (omega arith) (omega arith), book-span d (suc i) (omega arith) (omega arith) (omega arith))
      (by (leb i j && leb j (i + suc d)) refl)
    where
      by : (b : Bool) → (leb i j && leb j (i + suc d)) ≡ b → step ks u j d i ≡ cond b (step ks u j d i) zero_cell
      by true e = refl
      by false e = far ks u j d i e ∙ ⊎_elim (λ n. absurd (cell-found (blank-mag S d i (omega arith) reach low) n)) (λ z. z) (empty-blend ks u (suc d) i)

-- on knots that are bounded it is not refused at any index that a sample's functions reach, and so it is `N`
pub book-bounded : (a : Axis) (side : KnotSide) (t u : Float) → refusal_of_knots a ≡ 0 → Bounded a → snapped (low a) (high a) t ≡ At u
    → (d i : ℕ) → d ≤ a.degree → i + d ≤ span_at a side u + a.degree → plain a.knots u (span_at a side u) d i ≡ N a.knots u (span_at a side u) d i
book-bounded a side t u h B e d i few low = book-span (axis-span a side t u h B e) d i (omega (arith, (accepted a h).degree-most)) few low
