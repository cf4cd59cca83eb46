-- The parts of the check of knots, and what accepted knots are, both ways. Assumes nothing.
use Rattle.std.specs.Prelude.{◌≡◌, refl, Bool, true, false, cond, ◌&&◌, ◌||◌, ◌↔◌, ◌⊎◌, List, [], ◌∷◌, ℕ, zero, suc, ◌+◌, ◌≤◌, ◌<◌, leb, ltb, eqb, length, drop, get_or, Float}
use Rattle.std.proofs.Common.{sym, ◌∙◌, true≢false, inl, inr, ⊎_elim, eq-or-lt_of_le, pos_of_ne-zero, add-one, arith, drop_of_length-le, drop-cons, drop-drop}
use Rattle.std.proofs.Math.Bool.{and_assoc}
use Rattle.std.specs.Float.{nan}
use Rattle.std.specs.Float.Ieee.{lt, le}
use borrow.Author.Tests.{ltb-true, ltb-false, leb-true, eqb-true, eqb-false, lt-ltb, le-leb, eq-eqb}
use Rattle.float64.specs.Operators.{◌⊖◌}
use Rattle.float64.specs.Functions.{is_finite}
use Rattle.float64.specs.Order.{finite→number, le_refl, le_trans}
use Rattle.spline.specs.Knots.{Axis, knot, low, high, all_finite, ascending, pairwise_below, multiplicity_at_most, accepted_knots, refusal_of_knots}
use Rattle.spline.specs.Each.{Each, both, each_at, all_of_each}

-- ---- the parts: of the counts, of the knots one by one, and of the domain
unfoldable pub counts_fit : ℕ → ℕ → ℕ → Bool
counts_fit p n count = leb n 100000 && leb count 100034 && ltb p n && eqb count (n + p + 1)

unfoldable pub knots_fit : ℕ → List Float → Bool
knots_fit m ks = all_finite ks && ascending ks && multiplicity_at_most m ks

unfoldable pub domain_fits : Axis → Bool
domain_fits a = lt (low a) (high a) && is_finite (knot a (a.controls + a.degree) ⊖ knot a 0)

pub accepted-parts : (a : Axis) → accepted_knots a ≡ (counts_fit a.degree a.controls (length a.knots) && knots_fit (a.degree + 1) a.knots && domain_fits a)
unfolding accepted_knots counts_fit knots_fit domain_fits
accepted-parts a = simp and_assoc

-- x in a relation to the first of a list, if there is one
unfoldable pub to_first : (Float → Float → Bool) → Float → List Float → Bool
to_first r x [] = true
to_first r x (y ∷ ys) = r x y

-- one knot, with those after it
unfoldable pub knot_fits : ℕ → Float → List Float → Bool
knot_fits m k ks = is_finite k && to_first le k ks && to_first lt k (drop m (k ∷ ks))

ascending-more : (k : Float) (ks : List Float) → ascending (k ∷ ks) ≡ (to_first le k ks && ascending ks)
unfolding ascending to_first
ascending-more k [] = refl
ascending-more k (l ∷ ks) = refl

below_more : (k : Float) (ks ls : List Float) → pairwise_below (k ∷ ks) ls ≡ (to_first lt k ls && pairwise_below ks (drop 1 ls))
unfolding pairwise_below to_first
below_more k [] [] = refl
below_more k (x ∷ ks) [] = refl
below_more k ks (l ∷ ls) = refl

-- two conjunctions of three, term by term
interleave : (a b c d e f : Bool) → ((a && d) && (b && e) && (c && f)) ≡ ((a && b && c) && (d && e && f))
interleave false b c d e f = refl
interleave true false c false e f = refl
interleave true false c true e f = refl
interleave true true false false e f = refl
interleave true true false true false f = refl
interleave true true false true true f = refl
interleave true true true d e f = refl

knots-none : (m : ℕ) → knots_fit m [] ≡ true
unfolding knots_fit all_finite ascending pairwise_below
knots-none zero = refl
knots-none (suc m) = refl

knots-more : (m : ℕ) (k : Float) (ks : List Float) → knots_fit m (k ∷ ks) ≡ (knot_fits m k ks && knots_fit m ks)
unfolding knots_fit all_finite knot_fits
knots-more m k ks =
    rw (ascending-more, below_more, drop-drop 1 m (k ∷ ks), add-one m)
    (interleave (is_finite k) (to_first le k ks) (to_first lt k (drop m (k ∷ ks))) (all_finite ks) (ascending ks) (pairwise_below ks (drop m ks)))

pub knots-each : (m : ℕ) → Each (knot_fits m) (knots_fit m)
knots-each m = record { none = knots-none m; more = knots-more m }

-- of the knot at i: it is finite, not above the next, and below the one m places on
pub knot-tests : (m : ℕ) (ks : List Float) (i : ℕ) → i < length ks
    → knot_fits m (get_or ks i nan) (drop (i + 1) ks) ≡ (is_finite (get_or ks i nan) && to_first le (get_or ks i nan) (drop (i + 1) ks) && to_first lt (get_or ks i nan) (drop (i + m) ks))
unfolding knot_fits
knot-tests m ks i b = rw (add-one i, ← drop-cons ks i nan b, drop-drop m i ks)

pub first-none : (r : Float → Float → Bool) (x : Float) (ks : List Float) (i : ℕ) → length ks ≤ i → to_first r x (drop i ks) ≡ true
unfolding to_first
first-none r x ks i h = rw (drop_of_length-le ks h)

pub first_some : (r : Float → Float → Bool) (x : Float) (ks : List Float) (i : ℕ) → i < length ks → to_first r x (drop i ks) ≡ r x (get_or ks i nan)
unfolding to_first
first_some r x ks i h = rw (drop-cons ks i nan h)

first-at : (r : Float → Float → Bool) (x : Float) (ks : List Float) (i : ℕ) → (i < length ks → r x (get_or ks i nan) ≡ true) → to_first r x (drop i ks) ≡ true
first-at r x ks i h = by (ltb i (length ks)) refl
  where
    by : (t : Bool) → ltb i (length ks) ≡ t → to_first r x (drop i ks) ≡ true
    by true e = let l = ltb-true i (length ks) e in first_some r x ks i l ∙ h l
    by false e = first-none r x ks i (ltb-false i (length ks) e)

-- ---- knots that are accepted
pub record Accepted (a : Axis) : Type 0 where
  pub degree-least : 1 ≤ a.degree
  pub degree-most : a.degree ≤ 16
  pub degree-below : a.degree < a.controls
  pub controls-most : a.controls ≤ 100000
  pub count : length a.knots ≡ a.controls + a.degree + 1
  pub count_most : length a.knots ≤ 100034
  pub finite : (i : ℕ) → i < length a.knots → is_finite (knot a i) ≡ true
  pub in_order : (i j : ℕ) → i ≤ j → j < length a.knots → le (knot a i) (knot a j) ≡ true
  -- no degree + 2 in a row are equal
  pub multiplicity : (i : ℕ) → i + (a.degree + 1) < length a.knots → lt (knot a i) (knot a (i + (a.degree + 1))) ≡ true
  pub wide : lt (low a) (high a) ≡ true
  -- from the first to the last of all knots
  pub range : is_finite (knot a (a.controls + a.degree) ⊖ knot a 0) ≡ true

module _ (m : ℕ) (ks : List Float) (h : knots_fit m ks ≡ true) where
  knot-at : (i : ℕ) → i < length ks → (is_finite (get_or ks i nan) ≡ true) × (to_first le (get_or ks i nan) (drop (i + 1) ks) ≡ true) × (to_first lt (get_or ks i nan) (drop (i + m) ks) ≡ true)
  knot-at i l =
      let t = both _ _ (sym (knot-tests m ks i l) ∙ rw add-one (each_at (knots-each m) ks i h l)) in
      let s = both _ _ t.0 in
      (s.0, s.1, t.1)

  next : (i : ℕ) → suc i < length ks → le (get_or ks i nan) (get_or ks (suc i) nan) ≡ true
  next i l = sym (first_some le (get_or ks i nan) ks (suc i) l) ∙ rw add-one at (knot-at i (omega arith)).1

  same : (i j : ℕ) → i ≡ j → j < length ks → le (get_or ks i nan) (get_or ks j nan) ≡ true
  same i j e l = rw e (le_refl _ (finite→number _ (knot-at j l).0))

  in_order : (i j : ℕ) → i ≤ j → j < length ks → le (get_or ks i nan) (get_or ks j nan) ≡ true
  in_order i zero h l = same i 0 (omega arith) l
  in_order i (suc j) h l = ⊎_elim (λ e. same i (suc j) e l) (λ b. le_trans _ _ _ (in_order i j (omega arith) (omega arith)) (next j l)) (eq-or-lt_of_le h)

  later : (i : ℕ) → i + m < length ks → lt (get_or ks i nan) (get_or ks (i + m) nan) ≡ true
  later i l = sym (first_some lt (get_or ks i nan) ks (i + m) l) ∙ (knot-at i (omega arith)).2

pub counts-hold : (p n c : ℕ) → counts_fit p n c ≡ true → (n ≤ 100000) × (p < n) × (c ≡ n + p + 1)
unfolding counts_fit
counts-hold p n c h =
    let t = both _ _ h in
    let u = both _ _ t.0 in
    (leb-true _ _ (both _ _ u.0).0, ltb-true _ _ u.1, eqb-true _ _ t.1)

by_parts : (a : Axis) → 1 ≤ a.degree → a.degree ≤ 16 → accepted_knots a ≡ true → Accepted a
unfolding domain_fits
by_parts a l u h =
    let t = both _ _ (sym (accepted-parts a) ∙ h) in
    let s = both _ _ t.0 in
    let counts = counts-hold _ _ _ s.0 in
    let d = both (lt (low a) (high a)) _ t.1 in
    let m = a.degree + 1 in
    record {
      degree-least = l;
      degree-most = u;
      degree-below = counts.1;
      controls-most = counts.0;
      count = counts.2;
      count_most = omega arith;
      finite = λ i l. (knot-at m a.knots s.1 i l).0;
      in_order = in_order m a.knots s.1;
      multiplicity = later m a.knots s.1;
      wide = d.0;
      range = d.1;
    }

-- ---- and the other way round
module _ {a : Axis} (A : Accepted a) where
  counts-fit : counts_fit a.degree a.controls (length a.knots) ≡ true
  unfolding counts_fit
  counts-fit = simp (le-leb _ _ A.controls-most, le-leb _ _ A.count_most, lt-ltb _ _ A.degree-below, eq-eqb _ _ A.count)

  knots-fit : knots_fit (a.degree + 1) a.knots ≡ true
  knots-fit = all_of_each (knots-each (a.degree + 1)) a.knots fits
    where
      fits : (i : ℕ) → i < length a.knots → knot_fits (a.degree + 1) (knot a i) (drop (suc i) a.knots) ≡ true
      fits i l =
          rw (← add-one i)
          (knot-tests (a.degree + 1) a.knots i l ∙ simp (A.finite i l, first-at le (knot a i) a.knots (i + 1) (A.in_order i (i + 1) (omega arith)), first-at lt (knot a i) a.knots (i + (a.degree + 1)) (A.multiplicity i)))

  domain-fits : domain_fits a ≡ true
  unfolding domain_fits
  domain-fits = simp (A.wide, A.range)

  pub ascends : ascending a.knots ≡ true
  unfolding knots_fit
  ascends = (both (all_finite a.knots) (ascending a.knots) (both _ (multiplicity_at_most (a.degree + 1) a.knots) knots-fit).0).1

  all_fit : accepted_knots a ≡ true
  all_fit = accepted-parts a ∙ simp (counts-fit, knots-fit, domain-fits)

-- ---- the number answered
data Answer (a : Axis) : ℕ → Type 0 where
  degree-out : (a.degree ≡ 0) ⊎ (16 < a.degree) → Answer a 5
  knots-out : 1 ≤ a.degree → a.degree ≤ 16 → (Accepted a → ⊥) → Answer a 6
  none_out : Accepted a → Answer a 0

in-range : {p : ℕ} → (p ≡ 0) ⊎ (16 < p) → 1 ≤ p → p ≤ 16 → ⊥
in-range (inl e) l u = omega arith
in-range (inr h) l u = omega arith

answer : (a : Axis) → Answer a (refusal_of_knots a)
unfolding refusal_of_knots
answer a = by (eqb a.degree 0) (ltb 16 a.degree) (accepted_knots a) refl refl refl
  where
    by : (z l t : Bool) → eqb a.degree 0 ≡ z → ltb 16 a.degree ≡ l → accepted_knots a ≡ t → Answer a (cond (z || l) 5 (cond t 0 6))
    by true l t e f g = degree-out (inl (eqb-true _ _ e))
    by false true t e f g = degree-out (inr (ltb-true _ _ f))
    by false false true e f g = none_out (by_parts a (pos_of_ne-zero (eqb-false _ _ e)) (ltb-false _ _ f) g)
    by false false false e f g = knots-out (pos_of_ne-zero (eqb-false _ _ e)) (ltb-false _ _ f) (λ A. true≢false (sym (all_fit A) ∙ g))

-- what is accepted: counts in their limits, knots that are finite and in order, none too often, a domain with a width and a finite range
pub accepted : (a : Axis) → refusal_of_knots a ≡ 0 → Accepted a
accepted a = by (answer a)
  where
    by : {n : ℕ} → Answer a n → n ≡ 0 → Accepted a
    by (degree-out d) e = absurd (omega arith)
    by (knots-out l u r) e = absurd (omega arith)
    by (none_out A) e = A

-- all of which is enough
pub accepted-suffices : (a : Axis) → Accepted a → refusal_of_knots a ≡ 0
accepted-suffices a A = by (answer a)
  where
    by : {n : ℕ} → Answer a n → n ≡ 0
    by (degree-out d) = absurd (in-range d A.degree-least A.degree-most)
    by (knots-out l u r) = absurd (r A)
    by (none_out B) = refl

-- 5 where the degree is 0 or above 16, and never elsewhere
pub refused-degree : (a : Axis) → refusal_of_knots a ≡ 5 ↔ (a.degree ≡ 0) ⊎ (16 < a.degree)
refused-degree a = (there (answer a), back (answer a))
  where
    there : {n : ℕ} → Answer a n → n ≡ 5 → (a.degree ≡ 0) ⊎ (16 < a.degree)
    there (degree-out d) e = d
    there (knots-out l u r) e = absurd (omega arith)
    there (none_out A) e = absurd (omega arith)

    back : {n : ℕ} → Answer a n → (a.degree ≡ 0) ⊎ (16 < a.degree) → n ≡ 5
    back (degree-out d) e = refl
    back (knots-out l u r) d = absurd (in-range d l u)
    back (none_out A) d = absurd (in-range d A.degree-least A.degree-most)

-- 6 where the degree is 1 to 16 and the knots are not as accepted ones are, and never elsewhere
pub refused-knots : (a : Axis) → refusal_of_knots a ≡ 6 ↔ (1 ≤ a.degree) × (a.degree ≤ 16) × (Accepted a → ⊥)
refused-knots a = (there (answer a), back (answer a))
  where
    there : {n : ℕ} → Answer a n → n ≡ 6 → (1 ≤ a.degree) × (a.degree ≤ 16) × (Accepted a → ⊥)
    there (degree-out d) e = absurd (omega arith)
    there (knots-out l u r) e = (l, u, r)
    there (none_out A) e = absurd (omega arith)

    back : {n : ℕ} → Answer a n → (1 ≤ a.degree) × (a.degree ≤ 16) × (Accepted a → ⊥) → n ≡ 6
    back (degree-out d) o = absurd (in-range d o.0 o.1)
    back (knots-out l u r) o = refl
    back (none_out A) o = absurd (o.2 A)
