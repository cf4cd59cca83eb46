-- Raising the rows in place, a column at a time, gives the functions of the next degree. Assumes nothing.
use mathlib.Core.Path.{◌≡◌, refl, sym, ap, ◌∙◌}
use mathlib.Core.Bool.{Bool, true, false, cond}
use mathlib.Core.List.{List, []}
use Prim.Native.Nat.{ℕ, suc, ◌+◌, ◌-◌, ◌≤◌, ◌<◌}
use native.Mathlib.Omega.{arith}
use native.Mathlib.Numerals.{add-one}
use lib.Dec.{eqb, ltb}
use lib.ListN.{length, get_or, set, length-set}
use lib.Seq.{get_or-set_same, get_or-set_other}
use lib.Ieee.{Float, nan, eq}
use borrow.Author.Tests.{lt-ltb, le-ltb, le-leb, eqb-true, eqb-false, ltb-true, ltb-false}
use Rattle.float64.specs.Compute as Float64
use Rattle.float64.specs.Operators.{◌⊕◌, ◌⊖◌, 0·, of_nat}
use Rattle.basis.specs.declared.Entry.{Entry}
use Rattle.basis.specs.declared.Term.{Term}
use Rattle.basis.specs.Basis.{Cell, cell, checked, right, blend, zero_cell, N}
use Rattle.basis.specs.BasisLaws.{outside}
use Rattle.basis.specs.Rows.{Rows, cell_of, finite, term_at, mix_of, entry, column, Shaped, Columns, Broken}

-- by the outcome of a test
pub by : {P : Type 0} (b : Bool) → (b ≡ true → P) → (b ≡ false → P) → P
by true f g = f refl
by false f g = g refl

pub cells : {x y z x' y' z' : Float} → x ≡ x' → y ≡ y' → z ≡ z' → cell x y z ≡ cell x' y' z'
cells p q r = cc

-- ---- what is f below j, and g from there on

abbrev pub till : {A : Type 0} → (ℕ → A) → (ℕ → A) → ℕ → ℕ → A
till f g j k = cond (ltb k j) (f k) (g k)

module _ {A : Type 0} (f g : ℕ → A) (j k : ℕ) where
  pub till-below : k < j → till f g j k ≡ f k
  till-below h = simp (lt-ltb k j h)

  pub till-from : j ≤ k → till f g j k ≡ g k
  till-from h = simp (le-ltb k j h)

  pub till-begin : (k < j → f k ≡ g k) → g k ≡ till f g j k
  till-begin h = by (ltb k j) (λ t. simp (t, h (ltb-true k j t))) (λ t. simp t)

  pub till-next : (k ≡ j → ⊥) → till f g j k ≡ till f g (j + 1) k
  till-next n =
      by (ltb k j)
      (λ t.
      let l : k < j = ltb-true k j t in
      simp (t, lt-ltb k (j + 1) (omega arith)))
      (λ t.
      let l : j ≤ k = ltb-false k j t in
      simp (t, le-ltb k (j + 1) (omega (arith, n))))

  pub till-over : (j ≤ k → f k ≡ g k) → till f g j k ≡ f k
  till-over h = by (ltb k j) (λ t. simp t) (λ t. simp (t, h (ltb-false k j t)))

-- ---- a number written at row r, column j

abbrev pub put : Rows → ℕ → ℕ → Float → Rows
put rows r j v = set rows r (set (get_or rows r []) j v)

module _ (rows : Rows) (shape : Shaped rows) (r j : ℕ) (v : Float) (high : r < 3) where
  there : get_or (put rows r j v) r [] ≡ set (get_or rows r []) j v
  there = get_or-set_same rows r (set (get_or rows r []) j v) [] (omega (arith, shape.tall))

  elsewhere : (s : ℕ) → (s ≡ r → ⊥) → get_or (put rows r j v) s [] ≡ get_or rows s []
  elsewhere s n = get_or-set_other rows r s (set (get_or rows r []) j v) [] n

  pub shaped : Shaped (put rows r j v)
  shaped = record {
    tall = length-set rows r (set (get_or rows r []) j v) ∙ shape.tall;
    wide = λ s l. by (eqb s r)
        (λ t. ap (λ (i : ℕ). length (get_or (put rows r j v) i [])) (eqb-true s r t) ∙ ap length there ∙ length-set (get_or rows r []) j v ∙ shape.wide r high)
        (λ t. ap length (elsewhere s (eqb-false s r t)) ∙ shape.wide s l);
  }

  pub here : j < 18 → entry (put rows r j v) r j ≡ v
  here l = ap (λ (row : List Float). get_or row j nan) there ∙ get_or-set_same (get_or rows r []) j v nan (omega (arith, shape.wide r high))

  pub other_row : (s k : ℕ) → (s ≡ r → ⊥) → entry (put rows r j v) s k ≡ entry rows s k
  other_row s k n = ap (λ (row : List Float). get_or row k nan) (elsewhere s n)

  pub other-column : (s k : ℕ) → (k ≡ j → ⊥) → entry (put rows r j v) s k ≡ entry rows s k
  other-column s k n =
      by (eqb s r)
      (λ t.
      let same_row : entry (put rows r j v) r k ≡ entry rows r k = ap (λ (row : List Float). get_or row k nan) there ∙ get_or-set_other (get_or rows r []) j k v nan n in
      rw (eqb-true s r t) same_row)
      (λ t. other_row s k (eqb-false s r t))

-- ---- a column written

abbrev pub write : Rows → ℕ → Float → Float → Float → Rows
write rows j x y z = put (put (put rows 0 j x) 1 j y) 2 j z

module _ (rows : Rows) (shape : Shaped rows) (j : ℕ) (x y z : Float) where
  abbrev rows-1 : Rows
  rows-1 = put rows 0 j x

  abbrev rows-2 : Rows
  rows-2 = put rows-1 1 j y

  shape-1 : Shaped rows-1
  shape-1 = shaped rows shape 0 j x (omega arith)

  shape-2 : Shaped rows-2
  shape-2 = shaped rows-1 shape-1 1 j y (omega arith)

  column-here : j < 18 → column (write rows j x y z) j ≡ cell x y z
  column-here l =
      cells
      (other_row rows-2 shape-2 2 j z (omega arith) 0 j (λ e. omega arith) ∙ other_row rows-1 shape-1 1 j y (omega arith) 0 j (λ e. omega arith) ∙ here rows shape 0 j x (omega arith) l)
      (other_row rows-2 shape-2 2 j z (omega arith) 1 j (λ e. omega arith) ∙ here rows-1 shape-1 1 j y (omega arith) l)
      (here rows-2 shape-2 2 j z (omega arith) l)

  aside : (s k : ℕ) → (k ≡ j → ⊥) → entry (write rows j x y z) s k ≡ entry rows s k
  aside s k n =
      other-column rows-2 shape-2 2 j z (omega arith) s k n
      ∙ other-column rows-1 shape-1 1 j y (omega arith) s k n
      ∙ other-column rows shape 0 j x (omega arith) s k n

written : (rows : Rows) (j : ℕ) (x y z : Float) (f g : ℕ → Cell) → Columns rows f → j < 18 → cell x y z ≡ g j → ((k : ℕ) → (k ≡ j → ⊥) → f k ≡ g k)
    → Columns (write rows j x y z) g
written rows j x y z f g h l new old = record {
  shape = shaped (rows-2 rows h.shape j x y z) (shape-2 rows h.shape j x y z) 2 j z (omega arith);
  same = λ k b. by (eqb k j)
      (λ t. rw (eqb-true k j t) (column-here rows h.shape j x y z l ∙ new))
      (λ t.
      let n : k ≡ j → ⊥ = eqb-false k j t in
      let same = aside rows h.shape j x y z in
      cells (same 0 k n) (same 1 k n) (same 2 k n) ∙ h.same k b ∙ old k n);
}

respects : (rows : Rows) (f g : ℕ → Cell) → ((k : ℕ) → k < 18 → f k ≡ g k) → Columns rows f → Columns rows g
respects rows f g e h = record { shape = h.shape; same = λ k l. h.same k l ∙ e k l }

-- ---- the sum of two terms is the recursion's

zero_more : 0· ⊕ 0· ≡ 0·
unfolding Float64.compute
zero_more = refl

pub mixed : (ks : List Float) (u : Float) (d i : ℕ) (x y z x' y' z' : Float)
    → cell_of (mix_of (term_at ks i d (of_nat d) u x y) (term_at ks (i + 1) d (of_nat d) u x' y')) ≡ blend ks u d i (cell x y z) (cell x' y' z')
unfolding mix_of term_at blend right
mixed ks u d i x y z x' y' z' =
    let q : i + 1 + d ≡ i + d + 1 = omega arith in
    by (eq (get_or ks (i + d) nan ⊖ get_or ks i nan) 0·)
    (λ t. by (eq (get_or ks (i + d + 1) nan ⊖ get_or ks (i + 1) nan) 0·) (λ f. simp (q, t, f, zero_more)) (λ f. simp (q, t, f, zero_more)))
    (λ t. by (eq (get_or ks (i + d + 1) nan ⊖ get_or ks (i + 1) nan) 0·) (λ f. simp (q, t, f)) (λ f. simp (q, t, f)))

-- ---- the triangle of the span start + p: column k of degree d is the function start + k

module _ (ks : List Float) (start p : ℕ) (u : Float) where
  abbrev pub E : ℕ → ℕ → Cell
  E d k = N ks u (start + p) d (start + k)

  -- below column j degree d + 1, from there on degree d
  abbrev pub mid : ℕ → ℕ → ℕ → Cell
  mid d = till (E (suc d)) (E d)

  -- the terms of column j in the sums of degree d + 1
  abbrev pub terms : ℕ → ℕ → Rows → Term
  terms d j rows = term_at ks (start + j) (d + 1) (of_nat (d + 1)) u (entry rows 0 j) (entry rows 1 j)

  pub inside : (d j : ℕ) → p ≤ j + suc d → j ≤ p → E (suc d) j ≡ blend ks u (suc d) (start + j) (E d j) (E d (j + 1))
  unfolding N
  inside d j a b =
      let q : start + (j + 1) ≡ suc (start + j) = omega arith in
      simp (le-leb (start + j) (start + p) (omega arith), le-leb (start + p) (start + j + suc d) (omega arith), q)

  pub left-of : (d j : ℕ) → j + d < p → E d j ≡ zero_cell
  left-of d j h = outside ks u (start + p) d (start + j) (λ l m. omega arith)

  pub right_of : (d j : ℕ) → p < j → E d j ≡ zero_cell
  right_of d j h = outside ks u (start + p) d (start + j) (λ l m. omega arith)

  -- a column that is not raised is the same of both degrees
  pub left-same : (d k : ℕ) → k + suc d < p → E (suc d) k ≡ E d k
  left-same d k h = left-of (suc d) k h ∙ sym (left-of d k (omega arith))

  pub right-same : (d k : ℕ) → p < k → E (suc d) k ≡ E d k
  right-same d k h = right_of (suc d) k h ∙ sym (right_of d k h)

  module _ (d : ℕ) (small : p ≤ 16) (less : d < p) where
    -- before the first column is raised, and after the last
    pub begin : (rows : Rows) → Columns rows (E d) → Columns rows (mid d (p - (d + 1)))
    begin rows h = respects rows (E d) (mid d (p - (d + 1))) (λ k l. till-begin (E (suc d)) (E d) (p - (d + 1)) k (λ b. left-same d k (omega arith))) h

    pub over : (j : ℕ) (rows : Rows) → p + 1 ≤ j → Columns rows (mid d j) → Columns rows (E (suc d))
    over j rows a h = respects rows (mid d j) (E (suc d)) (λ k l. till-over (E (suc d)) (E d) j k (λ b. right-same d k (omega arith))) h

    -- the entry e of column j, of its terms a and those of the next column, b
    module _ (j : ℕ) (rows : Rows) (a b : Term) (e : Entry) (h : Columns rows (mid d j)) (low : p - (d + 1) ≤ j) (high : j < p + 1)
        (from-a : a ≡ terms d j rows) (from-b : b ≡ terms d (j + 1) rows) (from-both : e ≡ mix_of a b) where
      raised : E (suc d) j ≡ cell_of e
      raised =
          let x : E d j ≡ column rows j = sym (h.same j (omega arith) ∙ till-from (E (suc d)) (E d) j j (omega arith)) in
          let y : E d (j + 1) ≡ column rows (j + 1) = sym (h.same (j + 1) (omega arith) ∙ till-from (E (suc d)) (E d) j (j + 1) (omega arith)) in
          let q : start + (j + 1) ≡ start + j + 1 = omega arith in
          let m : e ≡ mix_of (terms d j rows) (term_at ks (start + j + 1) (d + 1) (of_nat (d + 1)) u (entry rows 0 (j + 1)) (entry rows 1 (j + 1))) = cc in
          inside d j (omega arith) (omega arith)
          ∙ ap (λ (c : Cell). blend ks u (suc d) (start + j) c (E d (j + 1))) x
          ∙ ap (blend ks u (suc d) (start + j) (column rows j)) y
          ∙ ap (λ (n : ℕ). blend ks u n (start + j) (column rows j) (column rows (j + 1))) (sym (add-one d))
          ∙ sym (ap cell_of m ∙ mixed ks u (d + 1) (start + j) _ _ _ _ _ _)

      abbrev after : Rows
      after = write rows j e.value e.first e.second

      pub go : finite e ≡ true → Columns after (mid d (j + 1))
      unfolding checked
      go t =
          let new : cell e.value e.first e.second ≡ E (suc d) j = sym (raised ∙ simp t) in
          written rows j e.value e.first e.second (mid d j) (mid d (j + 1)) h (omega arith) (new ∙ sym (till-below (E (suc d)) (E d) (j + 1) j (omega arith))) (till-next (E (suc d)) (E d) j)

      pub carried : b ≡ terms d (j + 1) after
      carried =
          let kept : (r : ℕ) → entry after r (j + 1) ≡ entry rows r (j + 1) = λ r. aside rows h.shape j e.value e.first e.second r (j + 1) (λ z. omega arith) in
          from-b ∙ rw (kept 0, kept 1)

      pub stop : finite e ≡ false → Broken ks u (start + p) (suc d)
      unfolding checked
      stop t = record { index = start + j; low = omega arith; high = omega arith; missing = raised ∙ simp t }
