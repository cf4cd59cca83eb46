-- The rows of degree p are what the recursion gathers, and a function that is none at any degree refuses it. Assumes nothing.
use mathlib.Core.Path.{◌≡◌, refl, sym, ap, ◌∙◌, subst}
use mathlib.Core.Bool.{Bool, true, false, not}
use mathlib.Core.List.{List, []}
use Prim.Native.Nat.{ℕ, zero, suc, ◌+◌, ◌-◌, ◌≤◌, ◌<◌}
use native.Mathlib.Omega.{arith}
use native.Mathlib.Numerals.{add-one}
use lib.Dec.{eqb}
use lib.ListN.{length, get_or, replicate, get_or-replicate}
use lib.Ieee.{Float, nan}
use borrow.Author.Tests.{not-true, not-false, le-leb, eq-eqb, ne_eqb, eqb-true, eqb-false}
use Rattle.float64.specs.Operators.{0·, 1·}
use Rattle.spline.specs.Knots.{Axis, low, high, snapped, span_at}
use Rattle.spline.specs.declared.parameter.KnotSide.{KnotSide}
use Rattle.spline.specs.declared.parameter.Snapped.{Snapped}
use Rattle.spline.specs.declared.parameter.Snapped.TheVariants.{At, Outside}
use Rattle.basis.specs.declared.Basis.{Basis}
use Rattle.basis.specs.Basis.{Cell, none, cell, blend, N, row, refused, sample, joined, gathered, sample_at, basis_at, threes, shown}
use Rattle.basis.specs.Rows.{Rows, blank, entry, Shaped, Columns, Broken, Raised, basis_of}
use Rattle.basis.proofs.Rows.{by, cells, put, shaped, here, other_row, other-column, E}

-- ---- a function that is none

module _ (ks : List Float) (u : Float) (j : ℕ) where
  -- the function of the next degree at the same index is none too
  next : (d : ℕ) → Broken ks u j d → Broken ks u j (suc d)
  unfolding N blend
  next d h = record {
    index = h.index;
    low = h.low;
    high = omega (arith, h.high);
    missing = simp (le-leb h.index j h.low, le-leb j (h.index + suc d) (omega (arith, h.high)), h.missing);
  }

  lasting : (k d : ℕ) → Broken ks u j d → Broken ks u j (d + k)
  lasting zero d h = subst (Broken ks u j) e h
    where
      e : d ≡ d + 0
      e = omega arith
  lasting (suc k) d h = subst (Broken ks u j) e (lasting k (suc d) (next d h))
    where
      e : suc d + k ≡ d + suc k
      e = omega arith

  joined-refused : (c : Cell) → joined c refused ≡ refused
  unfolding joined
  joined-refused none = refl
  joined-refused (cell x y z) = refl

  module _ (s d m : ℕ) (missing : N ks u j d m ≡ none) where
    none-gathered : (k i : ℕ) → i ≤ m → m < i + k → gathered s (row ks u j d k i) ≡ refused
    unfolding gathered row joined
    none-gathered zero i a b = absurd (omega arith)
    none-gathered (suc k) i a b =
        by (eqb i m)
        (λ t. simp (eqb-true i m t, missing))
        (λ t.
        let n : i ≡ m → ⊥ = eqb-false i m t in
        rw (none-gathered k (suc i) (omega (arith, n)) (omega arith)) (joined-refused (N ks u j d i)))

-- ---- the columns of the rows

blank-row : (r : ℕ) → r < 3 → get_or blank r [] ≡ replicate 18 0·
blank-row r h = get_or-replicate 3 r (replicate 18 0·) [] h

blank-entry : (r k : ℕ) → r < 3 → k < 18 → entry blank r k ≡ 0·
blank-entry r k h l = ap (λ (row : List Float). get_or row k nan) (blank-row r h) ∙ get_or-replicate 18 k 0· nan l

blank-shape : Shaped blank
blank-shape = record { tall = refl; wide = λ r h. ap length (blank-row r h) }

module _ (ks : List Float) (start p : ℕ) (u : Float) (small : p ≤ 16) where
  pub first : Columns (put blank 0 p 1·) (E ks start p u 0)
  unfolding N
  first = record {
    shape = shaped blank blank-shape 0 p 1· (omega arith);
    same = λ k l.
        let rest : (r : ℕ) → r < 3 → (r ≡ 0 → ⊥) → entry (put blank 0 p 1·) r k ≡ 0· = λ r b n. other_row blank blank-shape 0 p 1· (omega arith) r k n ∙ blank-entry r k b l in
        by (eqb k p)
        (λ t.
        let e : k ≡ p = eqb-true k p t in
        cells (ap (entry (put blank 0 p 1·) 0) e ∙ here blank blank-shape 0 p 1· (omega arith) (omega arith)) (rest 1 (omega arith) (λ z. omega arith)) (rest 2 (omega arith) (λ z. omega arith))
        ∙ simp (eq-eqb (start + k) (start + p) (omega arith)))
        (λ t.
        let n : k ≡ p → ⊥ = eqb-false k p t in
        cells (other-column blank blank-shape 0 p 1· (omega arith) 0 k n ∙ blank-entry 0 k (omega arith) l) (rest 1 (omega arith) (λ z. omega arith)) (rest 2 (omega arith) (λ z. omega arith))
        ∙ simp (ne_eqb (start + k) (start + p) (λ e. n (omega arith))));
  }

  pub begin : (rows : Rows) → rows ≡ blank → Columns (put rows 0 p 1·) (E ks start p u 0)
  begin rows e = rw e first

  pub over : (d : ℕ) → d ≡ p → (rows : Rows) → Columns rows (E ks start p u d) → Columns rows (E ks start p u p)
  over d e rows h = subst (λ (n : ℕ). Columns rows (E ks start p u n)) e h

  -- after raising the rows of degree d
  module _ (d : ℕ) (less : d < p) (sound : Bool) (rows : Rows) (raised : Raised ks u (start + p) (suc d) start sound rows) where
    pub go : not sound ≡ false → Columns rows (E ks start p u (d + 1))
    go t = rw add-one (subst (λ (b : Bool). Raised ks u (start + p) (suc d) start b rows) (not-false sound t) raised)

    pub stop : not sound ≡ true → Broken ks u (start + p) p
    stop t =
        let h : Broken ks u (start + p) (suc d) = subst (λ (b : Bool). Raised ks u (start + p) (suc d) start b rows) (not-true sound t) raised in
        let q : suc d + (p - suc d) ≡ p = omega arith in
        subst (Broken ks u (start + p)) q (lasting ks u (start + p) (p - suc d) (suc d) h)

  -- what the rows of degree p show
  module _ (rows : Rows) (h : Columns rows (E ks start p u p)) where
    abbrev basis : Basis
    basis = basis_of (record { found = true; start = start }) rows

    columns-gathered : (k m : ℕ) → k + m ≤ 18 → gathered start (row ks u (start + p) p k (start + m)) ≡ sample start (threes basis k m)
    unfolding gathered row joined threes
    columns-gathered zero m a = refl
    columns-gathered (suc k) m a =
        let q : suc (start + m) ≡ start + suc m = omega arith in
        let e : gathered start (row ks u (start + p) p k (suc (start + m))) ≡ sample start (threes basis k (suc m)) = ap (λ (i : ℕ). gathered start (row ks u (start + p) p k i)) q ∙ columns-gathered k (suc m) (omega arith) in
        simp (e, sym (h.same m (omega arith)))

  pub shows : (found : Bool) (rows : Rows) → Raised ks u (start + p) p start found rows
      → shown p (basis_of (record { found = found; start = start }) rows) ≡ gathered start (row ks u (start + p) p (suc p) start)
  unfolding shown
  shows true rows h =
      let q : start + 0 ≡ start = omega arith in
      sym (columns-gathered rows h (suc p) 0 (omega arith)) ∙ ap (λ (i : ℕ). gathered start (row ks u (start + p) p (suc p) i)) q
  shows false rows h = sym (none-gathered ks u (start + p) start p h.index h.missing (suc p) start (omega (arith, h.high)) (omega (arith, h.low)))

-- ---- the two answers of snap

module _ (a : Axis) (side : KnotSide) (u : Float) (s : Snapped) (snaps : s ≡ snapped (low a) (high a) u) where
  pub nowhere : s ≡ Outside → basis_at a side u ≡ refused
  unfolding basis_at sample_at
  nowhere o = simp (sym snaps ∙ o)

  pub sampled : (t : Float) → s ≡ At t → (i : ℕ) → span_at a side t ≡ i + a.degree → basis_at a side u ≡ gathered i (row a.knots t (i + a.degree) a.degree (suc a.degree) i)
  unfolding basis_at sample_at
  sampled t o i e =
      let q : i + a.degree - a.degree ≡ i = omega arith in
      simp (sym snaps ∙ o, e, q)
