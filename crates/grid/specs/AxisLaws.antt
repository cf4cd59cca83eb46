-- Laws of the grid's values on an axis in a window of its domain: the breaks rise, and how many values they give. Assumes nothing.
use Rattle.std.specs.Prelude.{◌≡◌, Bool, cond, ◌&&◌, ◌||◌, ℕ, zero, suc, ◌+◌, ◌-◌, ◌*◌, ◌/◌, ◌≤◌, ◌<◌, get_or}
use Rattle.std.proofs.Math.Path.{refl, ap}
use Rattle.std.proofs.Common.{sym, ◌∙◌, true≢false, div-lt_iff_lt-mul, le-div_iff_mul-le, arith, length-append}
use Rattle.std.proofs.Math.Bool.{true, false, and-eq-true_iff}
use mathlib.Core.List.{List, [], ◌∷◌, ◌++◌}
use Rattle.std.proofs.Math.Nat.{div-eq_of_lt, add-div_right}
use Rattle.std.proofs.Math.ListN.{length}
use Rattle.std.specs.Float.Ieee.{Float, lt, le, eq}
use Rattle.std.specs.Float.{nan}
use Rattle.float64.specs.Order.{le→number, eq_refl, le_trans, lt→le, lt→not-le, lt_trans, eq-lt, lt-eq, eq→le, eq-sym}
use Rattle.spline.specs.Knots.{Axis, knot, low, high, ascending, refusal_of_knots}
use Rattle.spline.specs.KnotLaws.{accepted, ascends}
use Rattle.grid.specs.Axis.{filter, distinct_from, distinct, every, first_equal, Within, start_of, end_of, inner_of, breaks_of, stride, thinned, eighths, between, values_of}

abbrev pub is_inner : Float → Float → Float → Bool
is_inner lo hi t = lt lo t && lt t hi

abbrev pub inner_within : Float → Float → List Float → List Float
inner_within lo hi ks = distinct (filter (is_inner lo hi) ks)

-- ---- the distinct numbers after x
unfoldable pub fresh : Float → List Float → List Float
fresh x [] = []
fresh x (y ∷ ys) = cond (eq x y) (fresh x ys) (y ∷ fresh y ys)

distinct-fresh : (x : Float) (ys : List Float) → distinct_from x ys ≡ x ∷ fresh x ys
unfolding distinct_from fresh
distinct-fresh x [] = refl
distinct-fresh x (y ∷ ys) = by (eq x y) (distinct-fresh x ys) (distinct-fresh y ys)
  where
    by : (t : Bool) → distinct_from x ys ≡ x ∷ fresh x ys → distinct_from y ys ≡ y ∷ fresh y ys
        → cond t (distinct_from x ys) (x ∷ distinct_from y ys) ≡ x ∷ cond t (fresh x ys) (y ∷ fresh y ys)
    by true p q = p
    by false p q = ap (λ (r : List Float). x ∷ r) q

-- nothing equals a NaN
pub fresh-nan : (xs : List Float) → distinct xs ≡ fresh nan xs
unfolding distinct fresh eq
fresh-nan [] = refl
fresh-nan (x ∷ xs) = distinct-fresh x xs

-- ---- lists in order
pub data Chain (r : Float → Float → Bool) : Float → List Float → Type 0 where
  end : {x : Float} → Chain r x []
  next : {x y : Float} {ys : List Float} → r x y ≡ true → Chain r y ys → Chain r x (y ∷ ys)

pub data Sorted (r : Float → Float → Bool) : List Float → Type 0 where
  none : Sorted r []
  from : {x : Float} {xs : List Float} → Chain r x xs → Sorted r (x ∷ xs)

module _ (r : Float → Float → Bool) (trans : (x y z : Float) → r x y ≡ true → r y z ≡ true → r x z ≡ true) where
  pub lower : {x y : Float} {ys : List Float} → r x y ≡ true → Chain r y ys → Chain r x ys
  lower h end = end
  lower h (next k c) = next (trans _ _ _ h k) c

pub tail : {r : Float → Float → Bool} {x : Float} {xs : List Float} → Chain r x xs → Sorted r xs
tail end = none
tail (next h c) = from c

ascending-chain : (x : Float) (xs : List Float) → ascending (x ∷ xs) ≡ true → Chain le x xs
unfolding ascending
ascending-chain x [] a = end
ascending-chain x (y ∷ ys) a =
    let t = (and-eq-true_iff (le x y) (ascending (y ∷ ys))).0 a in
    next t.0 (ascending-chain y ys t.1)

pub ascending-sorted : (xs : List Float) → ascending xs ≡ true → Sorted le xs
ascending-sorted [] a = none
ascending-sorted (x ∷ xs) a = from (ascending-chain x xs a)

pub lt→not-eq : (x y : Float) → lt x y ≡ true → eq x y ≡ false
lt→not-eq x y h = by (eq x y) refl
  where
    by : (t : Bool) → eq x y ≡ t → t ≡ false
    by true e = absurd (true≢false (sym (eq→le y x (eq-sym y x ∙ e)) ∙ lt→not-le x y h))
    by false e = refl

pub le→lt : (x y : Float) → le x y ≡ true → eq x y ≡ false → lt x y ≡ true
unfolding le
le→lt x y h e = by (lt x y) (rw e at h)
  where
    by : (t : Bool) → (t || false) ≡ true → t ≡ true
    by true p = refl
    by false p = p

-- ---- the ends of a window
first-equal : (x : Float) (ks : List Float) → eq x x ≡ true → eq (first_equal x ks) x ≡ true
unfolding first_equal
first-equal x [] r = r
first-equal x (k ∷ ks) r = by (eq k x) refl (first-equal x ks r)
  where
    by : (t : Bool) → eq k x ≡ t → eq (first_equal x ks) x ≡ true → eq (cond t k (first_equal x ks)) x ≡ true
    by true e p = e
    by false e p = p

module _ (a : Axis) (lo hi : Float) (wide : lt lo hi ≡ true) where
  pub start-equal : eq (start_of a lo) lo ≡ true
  unfolding start_of
  start-equal = by (eq lo (low a))
    where
      number : eq lo lo ≡ true
      number = eq_refl lo (le→number lo hi (lt→le lo hi wide)).0

      by : (t : Bool) → eq (cond t (first_equal lo a.knots) lo) lo ≡ true
      by true = first-equal lo a.knots number
      by false = number

  pub end-equal : eq (end_of a hi) hi ≡ true
  unfolding end_of
  end-equal = by (eq hi (high a)) refl
    where
      by : (t : Bool) → eq hi (high a) ≡ t → eq (cond t (high a) hi) hi ≡ true
      by true e = eq-sym (high a) hi ∙ e
      by false e = eq_refl hi (le→number lo hi (lt→le lo hi wide)).1

-- ---- the breaks rise
module _ (lo hi x e : Float) (before : eq x lo ≡ true) (after : eq e hi ≡ true) where
  -- after the knot p
  knots-rise : (p : Float) (ks : List Float) → Chain le p ks → lt p hi ≡ true → Chain lt p (fresh p (filter (is_inner lo hi) ks) ++ (e ∷ []))
  unfolding filter fresh
  knots-rise p [] c h = next (lt-eq p hi e h (eq-sym hi e ∙ after)) end
  knots-rise p (k ∷ ks) (next l c) h = by (knots-rise p ks (lower le le_trans l c) h) (knots-rise k ks c) (is_inner lo hi k) refl
    where
      ks' : List Float
      ks' = filter (is_inner lo hi) ks

      new : Chain lt p (fresh p ks' ++ (e ∷ [])) → Chain lt k (fresh k ks' ++ (e ∷ [])) → (t : Bool) → eq p k ≡ t → Chain lt p (cond t (fresh p ks') (k ∷ fresh k ks') ++ (e ∷ []))
      new m n true q = m
      new m n false q = next (le→lt p k l q) n

      by : Chain lt p (fresh p ks' ++ (e ∷ [])) → (lt k hi ≡ true → Chain lt k (fresh k ks' ++ (e ∷ []))) → (t : Bool) → is_inner lo hi k ≡ t → Chain lt p (fresh p (cond t (k ∷ ks') ks') ++ (e ∷ []))
      by m n true i = new m (n ((and-eq-true_iff (lt lo k) (lt k hi)).0 i).1) (eq p k) refl
      by m n false i = m

  inner-rise : (ks : List Float) → Sorted le ks → lt lo hi ≡ true → Chain lt x (fresh nan (filter (is_inner lo hi) ks) ++ (e ∷ []))
  unfolding filter fresh eq
  inner-rise [] s h = next (eq-lt x lo e before (lt-eq lo hi e h (eq-sym hi e ∙ after))) end
  inner-rise (k ∷ ks) (from c) h = by (inner-rise ks (tail c) h) (is_inner lo hi k) refl
    where
      ks' : List Float
      ks' = filter (is_inner lo hi) ks

      by : Chain lt x (fresh nan ks' ++ (e ∷ [])) → (t : Bool) → is_inner lo hi k ≡ t → Chain lt x (fresh nan (cond t (k ∷ ks') ks') ++ (e ∷ []))
      by m true i =
          let (l, u) = (and-eq-true_iff (lt lo k) (lt k hi)).0 i in
          next (eq-lt x lo k before l) (knots-rise k ks c u)
      by m false i = m

pub breaks-rise : (a : Axis) → refusal_of_knots a ≡ 0 → (lo hi : Float) → Within a lo hi → Chain lt (start_of a lo) (inner_of a lo hi ++ (end_of a hi ∷ []))
unfolding inner_of
breaks-rise a ok lo hi w =
    rw (fresh-nan (filter (is_inner lo hi) a.knots))
    (inner-rise lo hi (start_of a lo) (end_of a hi) (start-equal a lo hi w.0) (end-equal a lo hi w.0) a.knots (ascending-sorted a.knots (ascends (accepted a ok))) w.0)

-- ---- the breaks that are kept
-- Of numbers that rise to e some are kept, and e: it comes once, whether or not it was kept with them.
every-closed : (s k : ℕ) (x : Float) (ys : List Float) (e : Float) → eq e e ≡ true → Chain lt x (ys ++ (e ∷ []))
    → distinct_from x (every s k (ys ++ (e ∷ [])) ++ (e ∷ [])) ≡ x ∷ (every s k ys ++ (e ∷ []))
unfolding distinct_from every
every-closed s zero x [] e r (next h c) = rw (lt→not-eq x e h, r)
every-closed s (suc k) x [] e r (next h c) = rw (lt→not-eq x e h)
every-closed s zero x (y ∷ ys) e r (next h c) = rw (lt→not-eq x y h, every-closed s s y ys e r c)
every-closed s (suc k) x (y ∷ ys) e r (next h c) = every-closed s k x ys e r (lower lt lt_trans h c)

-- those kept of the start and the knots between
abbrev pub kept : Axis → Float → Float → List Float
kept a lo hi = every (stride (length (inner_of a lo hi) + 2) - 1) 0 (start_of a lo ∷ inner_of a lo hi)

pub breaks-length : (a : Axis) (lo hi : Float) → length (breaks_of a lo hi) ≡ length (inner_of a lo hi) + 2
unfolding breaks_of
breaks-length a lo hi = omega (arith, length-append (inner_of a lo hi) (end_of a hi ∷ []))

module _ (a : Axis) (ok : refusal_of_knots a ≡ 0) (lo hi : Float) (w : Within a lo hi) where
  every-break : (s : ℕ) → distinct (every s 0 (breaks_of a lo hi) ++ (end_of a hi ∷ [])) ≡ every s 0 (start_of a lo ∷ inner_of a lo hi) ++ (end_of a hi ∷ [])
  unfolding breaks_of distinct every
  every-break s =
      let number = (le→number (end_of a hi) hi (eq→le (end_of a hi) hi (end-equal a lo hi w.0))).0 in
      every-closed s s (start_of a lo) (inner_of a lo hi) (end_of a hi) (eq_refl (end_of a hi) number) (breaks-rise a ok lo hi w)

  pub thinned-kept : thinned a lo hi ≡ kept a lo hi ++ (end_of a hi ∷ [])
  unfolding thinned
  thinned-kept = rw (breaks-length a lo hi) (every-break (stride (length (inner_of a lo hi) + 2) - 1))

-- ---- how many values there are
every-length : (s k d : ℕ) (ys : List Float) → k + d ≡ s → length (every s k ys) ≡ (length ys + d) / suc s
unfolding every
every-length s k d [] q = sym (div-eq_of_lt (omega arith))
every-length s zero d (y ∷ ys) q =
    let n : suc (length ys) + d ≡ length ys + 0 + suc s = omega arith in
    rw (n, add-div_right (length ys + 0) {k = suc s} (omega arith)) (omega (arith, every-length s s 0 ys (omega arith)))
every-length s (suc k) d (y ∷ ys) q =
    let n : suc (length ys) + d ≡ length ys + suc d = omega arith in
    rw n (every-length s k (suc d) ys (omega arith))

pub stride-room : (n : ℕ) → (1 ≤ stride n) × (n ≤ 24 * stride n)
unfolding stride
stride-room n = (omega arith, omega arith)

-- so of n breaks at most 24 spans are kept
pub spans-most : (n : ℕ) → (n - 1 + (stride n - 1)) / stride n ≤ 24
spans-most n =
    let r = stride-room n in
    let h : n - 1 + (stride n - 1) < 25 * stride n = omega arith in
    omega (arith, (div-lt_iff_lt-mul {k = stride n} {x = n - 1 + (stride n - 1)} {y = 25} (omega arith)).1 h)

kept-length : (a : Axis) (lo hi : Float) → let n = length (inner_of a lo hi) + 2 in length (kept a lo hi) ≡ (n - 1 + (stride n - 1)) / stride n
kept-length a lo hi =
    let n = length (inner_of a lo hi) + 2 in
    let r = stride-room n in
    let p : suc (length (inner_of a lo hi)) ≡ n - 1 = omega arith in
    let q : suc (stride n - 1) ≡ stride n = omega arith in
    every-length (stride n - 1) 0 (stride n - 1) (start_of a lo ∷ inner_of a lo hi) (omega arith) ∙ rw (p, q)

pub kept-most : (a : Axis) (lo hi : Float) → length (kept a lo hi) ≤ 24
kept-most a lo hi = omega (arith, kept-length a lo hi, spans-most (length (inner_of a lo hi) + 2))

eighths-length : (k j : ℕ) (x y : Float) → length (eighths k j x y) ≡ k
unfolding eighths
eighths-length zero j x y = refl
eighths-length (suc k) j x y = ap suc (eighths-length k (suc j) x y)

between-length : (xs : List Float) → length (between xs) ≡ 8 * (length xs - 1)
unfolding between
between-length [] = refl
between-length (x ∷ []) = refl
between-length (x ∷ y ∷ ys) =
    omega (arith, length-append (eighths 8 0 x y) (between (y ∷ ys)), eighths-length 8 0 x y, between-length (y ∷ ys))

-- eight for each span between breaks that are kept, and the window's end
pub values_length : (a : Axis) (lo hi : Float) → length (values_of a lo hi) ≡ 8 * (length (thinned a lo hi) - 1) + 1
unfolding values_of
values_length a lo hi = omega (arith, length-append (between (thinned a lo hi)) (end_of a hi ∷ []), between-length (thinned a lo hi))

filter_none : (f : Float → Bool) (ks : List Float) → ((i : ℕ) → i < length ks → f (get_or ks i nan) ≡ false) → filter f ks ≡ []
unfolding filter
filter_none f [] h = refl
filter_none f (k ∷ ks) h = rw (h 0 (omega arith)) (filter_none f ks (λ i l. h (suc i) (omega arith)))

-- the count of values by the number of breaks
unfoldable pub values_for : ℕ → ℕ
values_for n = 8 * ((n - 1 + (stride n - 1)) / stride n) + 1

-- "no count of any size gives more"
pub never-more : (n : ℕ) → values_for n ≤ 193
unfolding values_for
never-more n = omega (arith, spans-most n)

module _ (a : Axis) (ok : refusal_of_knots a ≡ 0) (lo hi : Float) (w : Within a lo hi) where
  thinned-length : length (thinned a lo hi) ≡ length (kept a lo hi) + 1
  thinned-length = ap length (thinned-kept a ok lo hi w) ∙ length-append (kept a lo hi) (end_of a hi ∷ [])

  pub values-of-count : length (values_of a lo hi) ≡ values_for (length (breaks_of a lo hi))
  unfolding values_for
  values-of-count = rw (breaks-length a lo hi) (omega (arith, values_length a lo hi, thinned-length, kept-length a lo hi))

  pub values-most : length (values_of a lo hi) ≤ 193
  values-most = rw values-of-count (never-more (length (breaks_of a lo hi)))

  pub axis-count : (9 ≤ length (values_of a lo hi)) × (length (values_of a lo hi) ≤ 193)
  axis-count =
      let n = length (inner_of a lo hi) + 2 in
      let r = stride-room n in
      let s : 1 ≤ (n - 1 + (stride n - 1)) / stride n = (le-div_iff_mul-le {k = stride n} {x = 1} {y = n - 1 + (stride n - 1)} (omega arith)).1 (omega arith) in
      (omega (arith, values_length a lo hi, thinned-length, kept-length a lo hi), values-most)

  -- where no knot lies strictly between the window's ends
  pub one_span : ((i : ℕ) → i < length a.knots → is_inner lo hi (knot a i) ≡ false) → length (values_of a lo hi) ≡ 9
  unfolding values_for stride inner_of distinct
  one_span h =
      let none : length (inner_of a lo hi) ≡ 0 = ap (λ (r : List Float). length (distinct r)) (filter_none (is_inner lo hi) a.knots h) in
      values-of-count ∙ ap values_for (breaks-length a lo hi ∙ ap (λ (n : ℕ). n + 2) none)

  -- the counts for 24, 25, 47 and 48 breaks
  pub axis-counts : (length (breaks_of a lo hi) ≡ 24 → length (values_of a lo hi) ≡ 185)
      × (length (breaks_of a lo hi) ≡ 25 → length (values_of a lo hi) ≡ 97)
      × (length (breaks_of a lo hi) ≡ 47 → length (values_of a lo hi) ≡ 185)
      × (length (breaks_of a lo hi) ≡ 48 → length (values_of a lo hi) ≡ 193)
  unfolding values_for stride
  axis-counts =
      let v = values-of-count in
      (λ e. v ∙ ap values_for e, λ e. v ∙ ap values_for e, λ e. v ∙ ap values_for e, λ e. v ∙ ap values_for e)
