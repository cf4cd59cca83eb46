-- What each branch of the check of knots shows, over plain values. Assumes nothing.
use mathlib.Core.Path.{◌≡◌, sym, ◌∙◌}
use mathlib.Core.Bool.{Bool, true, false, cond, ◌&&◌, and-false, or-true}
use mathlib.Core.List.{List}
use Prim.Native.Nat.{ℕ, ◌+◌, ◌≤◌, ◌<◌}
use native.Mathlib.Omega.{arith}
use lib.Dec.{eqb}
use lib.ListN.{length, drop, get_or}
use lib.Ieee.{Float, nan, lt, le}
use borrow.Author.Tests.{eq-eqb, ne_eqb, lt-ltb, le-ltb, lt-leb, le-leb}
use Rattle.float64.specs.Operators.{◌⊖◌}
use Rattle.float64.specs.Functions.{is_finite}
use Rattle.spline.specs.Knots.{Axis, axis, knot, low, high, refusal_of_knots}
use Rattle.spline.specs.KnotLaws.{counts_fit, knots_fit, knot_fits, domain_fits, accepted-parts, knot-tests, first-none, first_some}

-- ---- the knot at i, against the next and the one m places on
module _ (m : ℕ) (ks : List Float) (i : ℕ) (b : i < length ks) where
  pub not_finite : is_finite (get_or ks i nan) ≡ false → false ≡ knot_fits m (get_or ks i nan) (drop (i + 1) ks)
  not_finite f = sym (knot-tests m ks i b ∙ simp f)

  module _ (f : is_finite (get_or ks i nan) ≡ true) where
    pub last : 0 < m → length ks ≤ i + 1 → true ≡ knot_fits m (get_or ks i nan) (drop (i + 1) ks)
    last s h = sym (knot-tests m ks i b ∙ simp (f, first-none le (get_or ks i nan) ks (i + 1) h, first-none lt (get_or ks i nan) ks (i + m) (omega arith)))

    module _ (h : i + 1 < length ks) where
      pub descends : le (get_or ks i nan) (get_or ks (i + 1) nan) ≡ false → false ≡ knot_fits m (get_or ks i nan) (drop (i + 1) ks)
      descends t = sym (knot-tests m ks i b ∙ simp (f, first_some le (get_or ks i nan) ks (i + 1) h, t))

      module _ (t : le (get_or ks i nan) (get_or ks (i + 1) nan) ≡ true) where
        pub later : i + m < length ks → lt (get_or ks i nan) (get_or ks (i + m) nan) ≡ knot_fits m (get_or ks i nan) (drop (i + 1) ks)
        later l = sym (knot-tests m ks i b ∙ simp (f, first_some le (get_or ks i nan) ks (i + 1) h, t, first_some lt (get_or ks i nan) ks (i + m) l))

        pub none-later : length ks ≤ i + m → true ≡ knot_fits m (get_or ks i nan) (drop (i + 1) ks)
        none-later l = sym (knot-tests m ks i b ∙ simp (f, first_some le (get_or ks i nan) ks (i + 1) h, t, first-none lt (get_or ks i nan) ks (i + m) l))

-- ---- the counts
module _ (p n c : ℕ) where
  pub controls-above : 100000 < n → false ≡ counts_fit p n c
  unfolding counts_fit
  controls-above h = simp (lt-leb n 100000 h)

  pub count-above : 100034 < c → false ≡ counts_fit p n c
  unfolding counts_fit
  count-above h = simp (lt-leb c 100034 h, and-false)

  pub controls-few : n ≤ p → false ≡ counts_fit p n c
  unfolding counts_fit
  controls-few h = simp (le-ltb p n h, and-false)

  pub in-limits : n ≤ 100000 → c ≤ 100034 → p < n → eqb c (n + p + 1) ≡ counts_fit p n c
  unfolding counts_fit
  in-limits h k l = simp (le-leb n 100000 h, le-leb c 100034 k, lt-ltb p n l)

-- ---- the domain
module _ (a : Axis) where
  pub no-width : lt (low a) (high a) ≡ false → false ≡ domain_fits a
  unfolding domain_fits
  no-width h = simp h

  pub some-width : (t : Bool) → lt (low a) (high a) ≡ true → t ≡ is_finite (knot a (a.controls + a.degree) ⊖ knot a 0) → t ≡ domain_fits a
  unfolding domain_fits
  some-width t h e = simp h e

-- ---- the answer
module _ (p n : ℕ) (ks : List Float) where
  pub no-degree : p ≡ 0 → 5 ≡ refusal_of_knots (axis p n ks)
  unfolding refusal_of_knots
  no-degree h = simp (eq-eqb p 0 h)

  pub degree_above : 16 < p → 5 ≡ refusal_of_knots (axis p n ks)
  unfolding refusal_of_knots
  degree_above h = simp (lt-ltb 16 p h, or-true)

  module _ (z : p ≡ 0 → ⊥) (l : p ≤ 16) where
    answered : (t : Bool) → (counts_fit p n (length ks) && knots_fit (p + 1) ks && domain_fits (axis p n ks)) ≡ t → cond t 0 6 ≡ refusal_of_knots (axis p n ks)
    unfolding refusal_of_knots
    answered t h = simp (ne_eqb p 0 z, le-ltb 16 p l, accepted-parts (axis p n ks), h)

    pub counts-refused : counts_fit p n (length ks) ≡ false → 6 ≡ refusal_of_knots (axis p n ks)
    counts-refused h = answered false (simp h)

    pub knots-refused : knots_fit (p + 1) ks ≡ false → 6 ≡ refusal_of_knots (axis p n ks)
    knots-refused h = answered false (simp (h, and-false))

    pub domain-refused : domain_fits (axis p n ks) ≡ false → 6 ≡ refusal_of_knots (axis p n ks)
    domain-refused h = answered false (simp (h, and-false))

    pub all_fit : counts_fit p n (length ks) ≡ true → knots_fit (p + 1) ks ≡ true → domain_fits (axis p n ks) ≡ true → 0 ≡ refusal_of_knots (axis p n ks)
    all_fit h k d = answered true (simp (h, k, d))
