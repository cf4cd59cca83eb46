-- Raising a row of values in place, and what the row shows. Assumes nothing.
use mathlib.Core.Path.{◌≡◌, refl, sym, ap, ◌∙◌}
use mathlib.Core.Bool.{true, ◌&&◌, and-eq-true_iff}
use mathlib.Core.List.{List, ◌∷◌}
use Prim.Native.Nat.{ℕ, zero, suc, ◌+◌, ◌≤◌, ◌<◌}
use native.Mathlib.Omega.{arith}
use lib.Dec.{eqb}
use lib.ListN.{length, get_or, set, take, drop, replicate, length-set}
use lib.Seq.{get_or-set_same, get_or-set_other, drop-cons}
use lib.Ieee.{Float, nan, eq}
use borrow.Author.Tests.{eqb-true, eqb-false}
use Rattle.float64.specs.Operators.{◌⊖◌, 0·, 1·, of_nat}
use Rattle.float64.specs.Functions.{is_finite}
use Rattle.spline.specs.Knots.{Axis, low, high, refusal_of_knots, snapped, span_at}
use Rattle.spline.specs.KnotLaws.{accepted}
use Rattle.spline.specs.declared.parameter.KnotSide.{KnotSide}
use Rattle.spline.specs.declared.parameter.Snapped.{Snapped}
use Rattle.spline.specs.declared.parameter.Snapped.TheVariants.{At}
use Rattle.basis.specs.Magnitude.{Bounded, axis-unbroken}
use Rattle.basis.specs.declared.Entry.{Entry}
use Rattle.basis.specs.declared.Term.{Term}
use Rattle.basis.specs.Basis.{Cell, none, cell, checked, blend, N, row as functions, Three, three, Sample, refused, sample, joined, gathered, basis_at}
use Rattle.basis.specs.Rows.{cell_of, finite, absent, term_at, mix_of}
use Rattle.basis.specs.Parts.{value_in, first_in, part, part_of, shown_part, Row, Unbroken}
use Rattle.basis.proofs.Rows.{by, till, till-below, till-from, till-begin, till-next, till-over, mixed, E, inside, left-of, right_of, left-same, right-same}
use Rattle.basis.proofs.Gathered.{first, sampled}
use Rattle.basis.proofs.Zeros.{Fine, Alike, Stands, itself, skipped, still-term, rounded-term, alike}

-- ---- a row

respects : (row : List Float) (f g : ℕ → Float) → ((k : ℕ) → f k ≡ g k) → Row row f → Row row g
respects row f g e h = record { wide = h.wide; same = λ k l. h.same k l ∙ e k }

pub written : (row : List Float) (f g : ℕ → Float) (j : ℕ) (v : Float) → Row row (till f g j) → j < 18 → v ≡ f j → Row (set row j v) (till f g (j + 1))
written row f g j v h l e = record {
  wide = length-set row j v ∙ h.wide;
  same = λ k b. by (eqb k j)
      (λ t. rw (eqb-true k j t) (get_or-set_same row j v nan (omega (arith, h.wide)) ∙ e ∙ sym (till-below f g (j + 1) j (omega arith))))
      (λ t.
      let n : k ≡ j → ⊥ = eqb-false k j t in
      get_or-set_other row j k v nan n ∙ h.same k b ∙ till-next f g j k n);
}

-- ---- the value and first derivative of a sum

found : (e : Entry) → (cell_of e ≡ none → ⊥) → Fine e × (value_in (cell_of e) ≡ e.value) × (first_in (cell_of e) ≡ e.first)
unfolding checked
found e f =
    by (finite e)
    (λ t.
    let z = (and-eq-true_iff (is_finite e.value) (is_finite e.first)).0 ((and-eq-true_iff (is_finite e.value && is_finite e.first) (is_finite e.second)).0 t).0 in
    ((z.0, z.1), simp t, simp t))
    (λ t. absurd (f (simp t)))

module _ (ks : List Float) (u : Float) (d i : ℕ) where
  -- of functions whose values are x and x', and whose first derivatives are y and y'
  abbrev sum : Float → Float → Float → Float → Entry
  sum x y x' y' = mix_of (term_at ks i d (of_nat d) u x y) (term_at ks (i + 1) d (of_nat d) u x' y')

  alone : (x y x' y' : Float) → Alike (sum x y x' y') (sum x 0· x' 0·)
  unfolding mix_of term_at
  alone x y x' y' =
      by (eq (get_or ks (i + d) nan ⊖ get_or ks i nan) 0·)
      (λ t. by (eq (get_or ks (i + 1 + d) nan ⊖ get_or ks (i + 1) nan) 0·) (λ f. (simp (t, f), simp (t, f))) (λ f. (simp (t, f), simp (t, f))))
      (λ t. by (eq (get_or ks (i + 1 + d) nan ⊖ get_or ks (i + 1) nan) 0·) (λ f. (simp (t, f), simp (t, f))) (λ f. (simp (t, f), simp (t, f))))

  blended : (a b : Cell) → (blend ks u d i a b ≡ none → ⊥)
      → Fine (sum (value_in a) 0· (value_in b) 0·) × (value_in (blend ks u d i a b) ≡ (sum (value_in a) 0· (value_in b) 0·).value) × (first_in (blend ks u d i a b) ≡ (sum (value_in a) 0· (value_in b) 0·).first)
  unfolding blend
  blended none b f = absurd (f refl)
  blended (cell x y z) none f = absurd (f refl)
  blended (cell x y z) (cell x' y' z') f =
      let m = mixed ks u d i x y z x' y' z' in
      let p = found (sum x y x' y') (λ e. f (sym m ∙ e)) in
      let q = alone x y x' y' in
      ((rw q.0 at p.0.0, rw q.1 at p.0.1), ap value_in (sym m) ∙ p.1 ∙ q.0, ap first_in (sym m) ∙ p.2 ∙ q.1)

-- ---- the values of degree d raised to degree n, which is d + 1

module _ (ks : List Float) (start p : ℕ) (u : Float) where
  abbrev pub value : ℕ → ℕ → Float
  value d k = value_in (E ks start p u d k)

  abbrev pub slope : ℕ → ℕ → Float
  slope d k = first_in (E ks start p u d k)

  abbrev pub term : ℕ → ℕ → List Float → Term
  term n j row = term_at ks (start + j) n (of_nat n) u (get_or row j nan) 0·

  pub begin-row : (row : List Float) → p ≤ 16 → row ≡ replicate 18 0· → Row (set row p 1·) (value 0)
  begin-row row small e =
      let c = first ks start p u small in
      rw e record { wide = c.shape.wide 0 (omega arith); same = λ k l. ap value_in (c.same k l) }

  pub firsts-begin : (row : List Float) → length row ≡ 18 → Row row (till (slope p) (λ k. get_or row k nan) 0)
  firsts-begin row h = record { wide = h; same = λ k l. sym (till-from (slope p) (λ k. get_or row k nan) 0 k (omega arith)) }

  skip : (n j : ℕ) (row : List Float) (a : Term) → get_or row j nan ≡ 0· → a ≡ absent → Stands (term n j row) a
  skip n j row a z e = skipped e (rw z (still-term ks (start + j) n (of_nat n) u 0·))

  pub carried : (n j : ℕ) (row : List Float) (v : Float) (b : Term) → b ≡ term n (j + 1) row → Stands (term n (j + 1) (set row j v)) b
  carried n j row v b e = itself (e ∙ rw (get_or-set_other row j (j + 1) v nan (λ z. omega arith)))

  module _ (small : p ≤ 16) (d n : ℕ) (next : n ≡ suc d) (less : n ≤ p) where
    pub begin : (j : ℕ) (row : List Float) → j + n ≤ p → Row row (value d) → Row row (till (value n) (value d) j)
    begin j row a h = rw next (respects row (value d) (till (value (suc d)) (value d) j) (λ k. till-begin (value (suc d)) (value d) j k (λ b. ap value_in (left-same ks start p u d k (omega arith)))) h)

    over : (row : List Float) → Row row (till (value n) (value d) (p + 1)) → Row row (value n)
    over row h = rw next (respects row (till (value (suc d)) (value d) (p + 1)) (value (suc d)) (λ k. till-over (value (suc d)) (value d) (p + 1) k (λ b. ap value_in (right-same ks start p u d k (omega arith)))) (rw next at h))

    firsts-over : (row : List Float) (old : ℕ → Float) → Row row (till (slope n) old (p + 1)) → ((k : ℕ) → k ≤ p → get_or row k nan ≡ slope n k) × (length row ≡ 18)
    firsts-over row old h = (λ k l. h.same k (omega arith) ∙ till-below (slope n) old (p + 1) k (omega arith), h.wide)

    -- the column before the first that is raised, and the one after the last
    pub skip_first : (j : ℕ) (row : List Float) (a : Term) → j + n ≤ p → Row row (value d) → a ≡ absent → Stands (term n j row) a
    skip_first j row a l h e = skip n j row a (h.same j (omega arith) ∙ ap value_in (left-of ks start p u d j (omega arith))) e

    skip-last : (row : List Float) (a : Term) → Row row (till (value n) (value d) p) → a ≡ absent → Stands (term n (p + 1) row) a
    skip-last row a h e = skip n (p + 1) row a (h.same (p + 1) (omega arith) ∙ till-from (value n) (value d) p (p + 1) (omega arith) ∙ ap value_in (right_of ks start p u d (p + 1) (omega arith))) e

    -- the entry e of column j, of terms a and b that stand for its own and those of the next column
    module _ (unbroken : Unbroken ks u (start + p) p) (j : ℕ) (row : List Float) (a b : Term) (e : Entry) (h : Row row (till (value n) (value d) j)) (low : p ≤ j + n) (high : j ≤ p)
        (from-a : Stands (term n j row) a) (from-b : Stands (term n (j + 1) row) b) (from-both : e ≡ mix_of a b) where
      raised : (value n j ≡ e.value) × (slope n j ≡ e.first)
      raised =
          let x : get_or row j nan ≡ value d j = h.same j (omega arith) ∙ till-from (value n) (value d) j j (omega arith) in
          let y : get_or row (j + 1) nan ≡ value d (j + 1) = h.same (j + 1) (omega arith) ∙ till-from (value n) (value d) j (j + 1) (omega arith) in
          let q : start + (j + 1) ≡ start + j + 1 = omega arith in
          let m : mix_of (term n j row) (term n (j + 1) row) ≡ sum ks u n (start + j) (value d j) 0· (value d (j + 1)) 0· = simp (x, y, q) in
          let i : E ks start p u n j ≡ blend ks u n (start + j) (E ks start p u d j) (E ks start p u d (j + 1)) = rw next (inside ks start p u d j (omega arith) (omega arith)) in
          let s = blended ks u n (start + j) (E ks start p u d j) (E ks start p u d (j + 1)) (λ z. unbroken n (start + j) less (i ∙ z)) in
          let g = alike (term n j row) (term n (j + 1) row) a b (rounded-term ks (start + j) n (of_nat n) u (get_or row j nan) 0·) from-a from-b (rw m s.0) in (
            ap value_in i ∙ s.1 ∙ ap (λ (e : Entry). e.value) (sym m) ∙ g.0 ∙ ap (λ (e : Entry). e.value) (sym from-both),
            ap first_in i ∙ s.2 ∙ ap (λ (e : Entry). e.first) (sym m) ∙ g.1 ∙ ap (λ (e : Entry). e.first) (sym from-both),
          )

      pub go : Row (set row j e.value) (till (value n) (value d) (j + 1))
      go = written row (value n) (value d) j e.value h (omega arith) (sym raised.0)

      pub firsts-go : (firsts : List Float) (old : ℕ → Float) → Row firsts (till (slope n) old j) → Row (set firsts j e.first) (till (slope n) old (j + 1))
      firsts-go firsts old f = written firsts (slope n) old j e.first f (omega arith) (sym raised.1)

    -- the last column, of its terms and none
    module _ (unbroken : Unbroken ks u (start + p) p) (j : ℕ) (at-end : j ≡ p) (row : List Float) (a b : Term) (e : Entry) (h : Row row (till (value n) (value d) j))
        (from-a : Stands (term n j row) a) (from-b : b ≡ absent) (from-both : e ≡ mix_of a b) where
      abbrev held : Row row (till (value n) (value d) p)
      held = rw at-end at h

      pub last : Row (set row p e.value) (value n)
      last = over (set row p e.value) (go unbroken p row a b e held (omega arith) (omega arith) (rw at-end at from-a) (skip-last row b held from-b) from-both)

      pub firsts-last : (firsts : List Float) (old : ℕ → Float) → Row firsts (till (slope n) old j) → ((k : ℕ) → k ≤ p → get_or (set firsts p e.first) k nan ≡ slope n k) × (length (set firsts p e.first) ≡ 18)
      firsts-last firsts old f = firsts-over (set firsts p e.first) old (firsts-go unbroken p row a b e held (omega arith) (omega arith) (rw at-end at from-a) (skip-last row b held from-b) from-both firsts old (rw at-end at f))

-- ---- what a row of degree p shows

-- the number f of a function, which is g of its cell
module _ (f : Three → Float) (g : Cell → Float) (agree : (x y z : Float) → g (cell x y z) ≡ f (three x y z)) where
  joined-part : (i : ℕ) (c : Cell) (s : Sample) (xs : List Float) → (c ≡ none → ⊥) → part_of f s ≡ part i xs → part_of f (joined c s) ≡ part i (g c ∷ xs)
  unfolding part_of joined
  joined-part i none s xs n e = absurd (n refl)
  joined-part i (cell x y z) refused xs n e = let z : ◌≡◌ {A = ℕ} 0 1 = cc in absurd (omega arith)
  joined-part i (cell x y z) (sample k ts) xs n e = cc (agree x y z)

  module _ (ks : List Float) (start p : ℕ) (u : Float) (small : p ≤ 16) (unbroken : Unbroken ks u (start + p) p) (numbers : List Float) (wide : length numbers ≡ 18)
      (same : (k : ℕ) → k ≤ p → get_or numbers k nan ≡ g (E ks start p u p k)) where
    gathered-part : (k m : ℕ) → k + m ≤ suc p → part_of f (gathered start (functions ks u (start + p) p k (start + m))) ≡ part start (take k (drop m numbers))
    unfolding gathered functions part_of
    gathered-part zero m a = refl
    gathered-part (suc k) m a =
        let q : suc (start + m) ≡ start + suc m = omega arith in
        let t : drop m numbers ≡ g (E ks start p u p m) ∷ drop (suc m) numbers = drop-cons numbers m nan (omega arith) ∙ ap (λ (x : Float). x ∷ drop (suc m) numbers) (same m (omega arith)) in
        rw t (joined-part start (N ks u (start + p) p (start + m)) _ _ (unbroken p (start + m) (omega arith)) (rw q (gathered-part k (suc m) (omega arith))))

-- ---- of a parameter that snaps

module _ (a : Axis) (h : refusal_of_knots a ≡ 0) (B : Bounded a) (side : KnotSide) (u : Float) (s : Snapped) (snaps : s ≡ snapped (low a) (high a) u) (t : Float) (o : s ≡ At t) (i : ℕ) (e : span_at a side t ≡ i + a.degree) where
  pub spanned : Unbroken a.knots t (i + a.degree) a.degree
  spanned = rw e at (axis-unbroken a side u t h B (sym snaps ∙ o))

  pub shows : (f : Three → Float) (g : Cell → Float) → ((x y z : Float) → g (cell x y z) ≡ f (three x y z)) → (numbers : List Float) → length numbers ≡ 18
      → ((k : ℕ) → k ≤ a.degree → get_or numbers k nan ≡ g (E a.knots i a.degree t a.degree k))
      → shown_part a.degree (record { found = true; start = i }) numbers ≡ part_of f (basis_at a side u)
  unfolding shown_part
  shows f g agree numbers wide same =
      let q : i + 0 ≡ i = omega arith in
      sym (gathered-part f g agree a.knots i a.degree t (accepted a h).degree-most spanned numbers wide same (suc a.degree) 0 (omega arith)) ∙ simp (sampled a side u s snaps t o i e, q)
