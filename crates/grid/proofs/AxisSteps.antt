-- The loops over an axis's knots and breaks, turn by turn: what is kept, and then what the rest gives, is the whole. Assumes nothing.
use mathlib.Core.Path.{◌≡◌, refl, sym, ap, ◌∙◌}
use mathlib.Core.Bool.{Bool, true, false, not, cond, ◌&&◌}
use mathlib.Core.List.{List, [], ◌∷◌, ◌++◌, append_assoc, append-nil}
use Prim.Native.Nat.{ℕ, zero, suc, ◌+◌, ◌-◌, ◌*◌, ◌/◌, ◌≤◌, ◌<◌}
use native.Mathlib.Numerals.{add-one}
use native.Mathlib.Omega.{arith}
use lib.ListN.{length, get_or, set, take, drop, length-append, drop_of_length-le}
use lib.Seq.{drop-cons, take-suc-set, get_or-take, length-take-le}
use lib.Ieee.{Float, nan, div, of_bits, eq}
use Rattle.float64.specs.Operators.{◌⊘◌, 0·}
use Rattle.spline.specs.Knots.{Axis, refusal_of_knots}
use Rattle.domain.specs.Intervals.{eighth_of}
use Rattle.grid.specs.Axis.{filter, every, first_equal, Within, start_of, end_of, inner_of, stride, eighths, between, values_of}
use Rattle.grid.specs.AxisLaws.{is_inner, inner_within, fresh, fresh-nan, kept, kept-most, thinned-kept, stride-room, spans-most, values_for, never-more}

-- one more element in an array
pub pushed : (at : List Float) (n : ℕ) (t : Float) → n < length at → take (n + 1) (set at n t) ≡ take n at ++ (t ∷ [])
pushed at n t h = rw (add-one n) (take-suc-set at n t h)

pub counted : (n m : ℕ) (xs ys : List Float) (t : Float) → n ≡ length xs → ys ≡ xs ++ (t ∷ []) → m ≡ n + 1 → m ≡ length ys
counted n m xs ys t e p q = omega (arith, ap length p, length-append xs (t ∷ []))

-- the distinct knots inside, where x is the one before
abbrev pub ahead : Float → Float → Float → List Float → List Float
ahead lo hi x ks = fresh x (filter (is_inner lo hi) ks)

ahead_more : (lo hi x t : Float) (ts : List Float) → ahead lo hi x (t ∷ ts) ≡ cond (is_inner lo hi t && not (eq x t)) (t ∷ ahead lo hi t ts) (ahead lo hi x ts)
unfolding filter fresh
ahead_more lo hi x t ts = by (is_inner lo hi t)
  where
    differs : (e : Bool) → cond e (ahead lo hi x ts) (t ∷ ahead lo hi t ts) ≡ cond (not e) (t ∷ ahead lo hi t ts) (ahead lo hi x ts)
    differs true = refl
    differs false = refl

    by : (b : Bool) → fresh x (cond b (t ∷ filter (is_inner lo hi) ts) (filter (is_inner lo hi) ts)) ≡ cond (b && not (eq x t)) (t ∷ ahead lo hi t ts) (ahead lo hi x ts)
    by true = differs (eq x t)
    by false = refl

nan-zero : 0· ⊘ 0· ≡ nan
unfolding div of_bits
nan-zero = refl

ahead-begin : (lo hi : Float) (ks : List Float) → inner_within lo hi ks ≡ ahead lo hi (0· ⊘ 0·) ks
ahead-begin lo hi ks = rw nan-zero (fresh-nan (filter (is_inner lo hi) ks))

ahead-over : (lo hi x : Float) (ks : List Float) (i : ℕ) → length ks ≤ i → ahead lo hi x (drop i ks) ≡ []
unfolding filter fresh
ahead-over lo hi x ks i h = rw (drop_of_length-le ks h)

-- the knot at i, with the answer b of its test
module _ (lo hi x : Float) (ks : List Float) (i : ℕ) (h : i < length ks) (b : Bool) (e : b ≡ (is_inner lo hi (get_or ks i nan) && not (eq x (get_or ks i nan)))) where
  ahead_step : ahead lo hi x (drop i ks) ≡ cond b (get_or ks i nan ∷ ahead lo hi (get_or ks i nan) (drop (i + 1) ks)) (ahead lo hi x (drop (i + 1) ks))
  ahead_step = rw (add-one i, drop-cons ks i nan h, e) (ahead_more lo hi x (get_or ks i nan) (drop (suc i) ks))

  ahead-new : b ≡ true → ahead lo hi x (drop i ks) ≡ get_or ks i nan ∷ ahead lo hi (get_or ks i nan) (drop (i + 1) ks)
  ahead-new t = ahead_step ∙ rw t

  ahead-same : b ≡ false → ahead lo hi x (drop i ks) ≡ ahead lo hi x (drop (i + 1) ks)
  ahead-same t = ahead_step ∙ rw t

  -- the knots inside counted: n in all, and m before
  module _ (n m : ℕ) (p : n ≡ m + length (ahead lo hi x (drop i ks))) where
    pub count-new : b ≡ true → n ≡ m + 1 + length (ahead lo hi (get_or ks i nan) (drop (i + 1) ks))
    count-new t = omega (arith, ap length (ahead-new t))

    pub count_same : b ≡ false → n ≡ m + length (ahead lo hi x (drop (i + 1) ks))
    count_same t = p ∙ ap (λ (r : List Float). m + length r) (ahead-same t)

pub count-begin : (lo hi : Float) (ks : List Float) → length (inner_within lo hi ks) ≡ 0 + length (ahead lo hi (0· ⊘ 0·) ks)
count-begin lo hi ks = omega (arith, ap length (ahead-begin lo hi ks))

pub count-over : (lo hi x : Float) (ks : List Float) (i n m : ℕ) → n ≡ m + length (ahead lo hi x (drop i ks)) → length ks ≤ i → m ≡ n
count-over lo hi x ks i n m p h = omega (arith, ap length (ahead-over lo hi x ks i h))

-- ---- every so many
-- w is what was kept, xs, and then what `every` gives of the rest with k skipped first; b, whether the knot t is the next inside; r and r', what is ahead if it is not and if it is
pub record Turn (w xs : List Float) (s k : ℕ) (b : Bool) (t : Float) (r r' : List Float) : Type 0 where
  pub keep : b ≡ true → k ≡ 0 → w ≡ (xs ++ (t ∷ [])) ++ every s s r'
  pub room : b ≡ true → k ≡ 0 → length xs < length w
  pub skip : b ≡ true → (k ≡ 0 → ⊥) → w ≡ xs ++ every s (k - 1) r'
  pub same : b ≡ false → w ≡ xs ++ every s k r

every-skip : (s k : ℕ) (t : Float) (r : List Float) → (k ≡ 0 → ⊥) → every s k (t ∷ r) ≡ every s (k - 1) r
unfolding every
every-skip s zero t r n = absurd (n refl)
every-skip s (suc k) t r n = let q : suc k - 1 ≡ k = omega arith in rw q

pub thin-turn : (lo hi x : Float) (ks : List Float) (i : ℕ) → i < length ks → (b : Bool) → b ≡ (is_inner lo hi (get_or ks i nan) && not (eq x (get_or ks i nan)))
    → (w xs : List Float) (s k : ℕ) → w ≡ xs ++ every s k (ahead lo hi x (drop i ks))
    → Turn w xs s k b (get_or ks i nan) (ahead lo hi x (drop (i + 1) ks)) (ahead lo hi (get_or ks i nan) (drop (i + 1) ks))
unfolding every
thin-turn lo hi x ks i h b test w xs s k e = record {
  keep = keep;
  room = λ y z. omega (arith, ap length (keep y z), length-append (xs ++ (t ∷ [])) (every s s r'), length-append xs (t ∷ []));
  skip = λ y n. e ∙ rw (ahead-new lo hi x ks i h b test y, every-skip s k t r' n);
  same = λ y. e ∙ rw (ahead-same lo hi x ks i h b test y);
}
  where
    t : Float
    t = get_or ks i nan

    r' : List Float
    r' = ahead lo hi t (drop (i + 1) ks)

    keep : b ≡ true → k ≡ 0 → w ≡ (xs ++ (t ∷ [])) ++ every s s r'
    keep y z = e ∙ rw (ahead-new lo hi x ks i h b test y, z, append_assoc)

pub thin-begin : (lo hi x : Float) (ks : List Float) (s : ℕ) → every s 0 (x ∷ inner_within lo hi ks) ≡ (x ∷ []) ++ every s s (ahead lo hi (0· ⊘ 0·) ks)
unfolding every
thin-begin lo hi x ks s = ap (λ (r : List Float). x ∷ every s s r) (ahead-begin lo hi ks)

pub thin-over : (lo hi x : Float) (ks : List Float) (i : ℕ) → length ks ≤ i → (w xs : List Float) (s k : ℕ) → w ≡ xs ++ every s k (ahead lo hi x (drop i ks)) → xs ≡ w
unfolding every
thin-over lo hi x ks i h w xs s k e = sym (e ∙ rw (ahead-over lo hi x ks i h, append-nil))

-- ---- the values
eighths-more : (j : ℕ) (x y : Float) → j < 8 → eighths (8 - j) j x y ≡ eighth_of x y j ∷ eighths (8 - (j + 1)) (j + 1) x y
unfolding eighths
eighths-more j x y h =
    let q : 8 - j ≡ suc (8 - (j + 1)) = omega arith in
    rw (q, add-one j)

pub eighths-begin : (at : List Float) (n : ℕ) (x y : Float) → take n at ++ eighths 8 0 x y ≡ take (n + 0) at ++ eighths 8 0 x y
eighths-begin at n x y = let q : n + 0 ≡ n = omega arith in rw q

module _ (w at : List Float) (n j : ℕ) (x y : Float) (e : w ≡ take (n + j) at ++ eighths (8 - j) j x y) where
  pub eighths-turn : j < 8 → n + j < length at → w ≡ take (n + (j + 1)) (set at (n + j) (eighth_of x y j)) ++ eighths (8 - (j + 1)) (j + 1) x y
  eighths-turn h l =
      let q : n + (j + 1) ≡ n + j + 1 = omega arith in
      e ∙ rw (q, pushed at (n + j) (eighth_of x y j) l, eighths-more j x y h, append_assoc)

  pub eighths-over : j ≡ 8 → take (n + 8) at ≡ w
  unfolding eighths
  eighths-over h = sym (e ∙ rw (h, append-nil))

pub between-begin : (at : List Float) (n : ℕ) → 0 < n → n ≤ length at → between (take n at) ≡ between (get_or at 0 nan ∷ drop 1 (take n at))
between-begin at n p l =
    ap between (drop-cons (take n at) 0 nan (omega (arith, length-take-le n at l))
    ∙ ap (λ (z : Float). z ∷ drop 1 (take n at)) (get_or-take n at 0 nan p))

-- w is what is held, xs, and then what lies between x and the breaks from i on
module _ (w xs at : List Float) (n i : ℕ) (x : Float) (e : w ≡ xs ++ between (x ∷ drop i (take n at))) (l : n ≤ length at) where
  pub between_more : i < n → w ≡ (xs ++ eighths 8 0 x (get_or at i nan)) ++ between (get_or at i nan ∷ drop (i + 1) (take n at))
  unfolding between
  between_more h =
      let q : drop i (take n at) ≡ get_or at i nan ∷ drop (i + 1) (take n at) =
      rw (add-one i) (drop-cons (take n at) i nan (omega (arith, length-take-le n at l)) ∙ ap (λ (z : Float). z ∷ drop (suc i) (take n at)) (get_or-take n at i nan h)) in
      e ∙ rw (q, append_assoc)

  between-over : n ≤ i → xs ≡ w
  unfolding between
  between-over h =
      let q : drop i (take n at) ≡ [] = drop_of_length-le (take n at) {i = i} (omega (arith, length-take-le n at l)) in
      sym (e ∙ rw (q, append-nil))

  pub between-end : n ≤ i → (vs : List Float) (m : ℕ) (z : Float) → xs ≡ take m vs → m < length vs → take (m + 1) (set vs m z) ≡ w ++ (z ∷ [])
  between-end h vs m z p k = pushed vs m z k ∙ ap (λ (r : List Float). r ++ (z ∷ [])) (sym p ∙ between-over h)

-- ---- the first of equal knots
firsts_more : (x t : Float) (ts : List Float) → first_equal x (t ∷ ts) ≡ cond (eq t x) t (first_equal x ts)
unfolding first_equal
firsts_more x t ts = refl

-- w is what is looked for, and what the knots from i on give
module _ (w x : Float) (ks : List Float) (i : ℕ) (e : w ≡ first_equal x (drop i ks)) where
  first-at : i < length ks → w ≡ cond (eq (get_or ks i nan) x) (get_or ks i nan) (first_equal x (drop (i + 1) ks))
  first-at h = e ∙ rw (add-one i, drop-cons ks i nan h) (firsts_more x (get_or ks i nan) (drop (suc i) ks))

  pub first-met : i < length ks → eq (get_or ks i nan) x ≡ true → get_or ks i nan ≡ w
  first-met h t = sym (first-at h ∙ rw t)

  pub first_past : i < length ks → eq (get_or ks i nan) x ≡ false → w ≡ first_equal x (drop (i + 1) ks)
  first_past h t = first-at h ∙ rw t

  pub first-none : length ks ≤ i → x ≡ w
  unfolding first_equal
  first-none h = sym (e ∙ rw (drop_of_length-le ks h))

-- ---- the parts put together
module _ (a : Axis) (lo hi x : Float) (n s : ℕ) (start : x ≡ start_of a lo) (count : n ≡ length (inner_of a lo hi)) (step : s ≡ stride (n + 2)) where
  kept_here : every (s - 1) 0 (x ∷ inner_of a lo hi) ≡ kept a lo hi
  kept_here = rw (start, step, count)

  pub few-kept : length (every (s - 1) 0 (x ∷ inner_of a lo hi)) ≤ 24
  few-kept = rw kept_here (kept-most a lo hi)

  pub put-together : refusal_of_knots a ≡ 0 → Within a lo hi → (e : Float) (ks bs vs : List Float) → e ≡ end_of a hi → ks ≡ every (s - 1) 0 (x ∷ inner_of a lo hi) → bs ≡ ks ++ (e ∷ [])
      → vs ≡ between bs ++ (e ∷ []) → vs ≡ values_of a lo hi
  unfolding values_of
  put-together ok w e ks bs vs end k b v = v ∙ rw (b, k, end, kept_here, thinned-kept a ok lo hi w)

-- how many values n breaks give, worked out by their stride k
module _ (n k : ℕ) (e : k ≡ stride n) where
  pub stride-fits : (1 ≤ k) × (k ≤ n + 1)
  unfolding stride
  stride-fits = (omega (arith, stride-room n), omega arith)

  pub spans_fit : (n - 1 + (k - 1)) / k ≤ 24
  spans_fit = rw e (spans-most n)

  pub values-counted : (m : ℕ) → n ≡ m → (8 * ((n - 1 + (k - 1)) / k) + 1 ≡ values_for m) × (8 * ((n - 1 + (k - 1)) / k) + 1 ≤ 193)
  unfolding values_for
  values-counted m is = (rw (e, is), rw e (never-more n))
