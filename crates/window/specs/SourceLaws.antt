-- In the window that is the whole domain an axis has the values of the source's own way (`source-values`), which takes every distinct knot of the domain for a break, both ends among them.
-- The last break may differ, where zeros of both signs are knots at the domain's high end: no eighth shows which of them it is. Assumes nothing.
use Rattle.std.specs.Prelude.{◌≡◌, ◌⊎◌, Bool, not, ◌&&◌, ◌||◌, eqb, length, get_or, Float}
use Rattle.std.proofs.Math.Path.{refl}
use Rattle.std.proofs.Common.{sym, ap, ◌∙◌, inl, inr, true≢false, zero-mul, mul-pos, arith, length-append, ltb-true, eqb-true, lt-ltb}
use Rattle.std.proofs.Math.Bool.{true, false, cond, and-false, and-eq-true_iff}
use Rattle.std.specs.Bool.{beq}
use Rattle.std.proofs.lemmas.Bool.{false≢true}
use mathlib.Core.List.{List, [], ◌∷◌, ◌++◌}
use Prim.Native.Nat.{ℕ, zero, suc, ◌+◌, ◌-◌, ◌*◌, ◌<◌}
use Rattle.std.proofs.Math.Nat.{mul-mul-mul_comm}
use Rattle.std.specs.Float.Ieee.{nan, up, down, round, neg, sum, add, sub, below, lt, le, eq}
use Rattle.std.specs.Float.{inf, fin, binary64}
use Rattle.std.specs.Float.Ieee.Fits.{down_pos}
use Rattle.float64.specs.Operators.{◌⊖◌}
use Rattle.float64.specs.Order.{le→number, le_refl, le_trans, le_antisym, lt→le, lt→not-le, le→not-lt, lt_trans, lt-le-trans, eq_refl, eq-sym, eq→le, eq-lt, lt-eq}
use Rattle.between.specs.BetweenLaws.{sum-rescaled}
use Rattle.spline.specs.Knots.{Axis, low, high, refusal_of_knots}
use Rattle.spline.specs.KnotLaws.{accepted, ascends}
use Rattle.grid.specs.Axis.{filter, distinct_from, distinct, every, first_equal, Within, start_of, end_of, inner_of, stride, eighths, between, values_of}
use Rattle.grid.specs.AxisLaws.{is_inner, fresh, fresh-nan, Chain, Sorted, lower, tail, ascending-sorted, lt→not-eq, le→lt, breaks-rise, thinned-kept}
use Rattle.grid.specs.AxisLaws.Chain.{end, next}
use Rattle.grid.specs.AxisLaws.Sorted.{from}

-- ---- the source's way
unfoldable pub source_breaks : Axis → List Float
source_breaks a = distinct (filter (λ t. le (low a) t && le t (high a)) a.knots)

unfoldable pub source_thinned : Axis → List Float
source_thinned a =
    let bs = source_breaks a in
    distinct (every (stride (length bs) - 1) 0 bs ++ (high a ∷ []))

unfoldable pub source_values : Axis → List Float
source_values a = between (source_thinned a) ++ (high a ∷ [])

-- ---- eighths to equal numbers are the same
-- ±0 and a number above it
zero-plain : (s : Bool) (b c : ℕ) → 0 < b → sum binary64 s 0 false b c ≡ round binary64 false b c
unfolding sum
zero-plain false b c h = let z : 0 + b ≡ b = omega arith in ap (λ (n : ℕ). round binary64 false n c) z
zero-plain true b c h = let z : b - 0 ≡ b = omega arith in rw (lt-ltb 0 b h) (ap (λ (n : ℕ). round binary64 false n c) z)

below-zero : (r s : Bool) (a b : ℕ) → b ≡ 0 → below r a s b ≡ true → (r ≡ true) × (0 < a)
below-zero false false a b z h = absurd (omega (arith, ltb-true a b h))
below-zero false true a b z h = absurd (false≢true h)
below-zero true false a b z h = (refl, omega (arith, ltb-true 0 (a + b) h))
below-zero true true a b z h = (refl, omega (arith, ltb-true b a h))

level-parts : (s t : Bool) (a b : ℕ) → (eqb a b && (beq s t || eqb a 0)) ≡ true → (a ≡ b) × ((s ≡ t) ⊎ (a ≡ 0))
level-parts s t a b h =
    let (p, q) = (and-eq-true_iff (eqb a b) (beq s t || eqb a 0)).0 h in
    (eqb-true a b p, by s t q)
  where
    by : (s t : Bool) → (beq s t || eqb a 0) ≡ true → (s ≡ t) ⊎ (a ≡ 0)
    by true true q = inl refl
    by true false q = inr (eqb-true a 0 q)
    by false true q = inr (eqb-true a 0 q)
    by false false q = inl refl

same-signs : (s t : Bool) → beq s t ≡ true → s ≡ t
same-signs true true h = refl
same-signs true false h = absurd (false≢true h)
same-signs false true h = absurd (false≢true h)
same-signs false false h = refl

factor-zero : (m n : ℕ) → 0 < n → m * n ≡ 0 → m ≡ 0
factor-zero zero n h e = refl
factor-zero (suc m) n h e = absurd (omega (arith, mul-pos {m = suc m} {n = n} (omega arith) h))

factor-pos : (m n : ℕ) → 0 < m * n → 0 < m
factor-pos zero n h = absurd (omega (arith, zero-mul n))
factor-pos (suc m) n h = omega arith

-- M / E and N / D are equal, and P / Q is taken from them
difference-scaled : (r s t : Bool) (M N P E D Q : ℕ) → 0 < E → 0 < D → 0 < Q → below r (P * E) s (M * Q) ≡ true → (M * D ≡ N * E) × ((s ≡ t) ⊎ (M * D ≡ 0))
    → sum binary64 s (M * Q) (not r) (P * E) (E * Q) ≡ sum binary64 t (N * Q) (not r) (P * D) (D * Q)
difference-scaled r s t M N P E D Q e d q h (k, o) =
    sum-rescaled s (M * Q) (not r) (P * E) (N * Q) (P * D) (D * Q) (E * Q) (mul-pos d q) (mul-pos e q)
    (mul-mul-mul_comm M Q D Q ∙ ap (λ (z : ℕ). z * (Q * Q)) k ∙ sym (mul-mul-mul_comm N Q E Q)) (mul-mul-mul_comm P E D Q) ∙ by o
  where
    by : (s ≡ t) ⊎ (M * D ≡ 0) → sum binary64 s (N * Q) (not r) (P * D) (D * Q) ≡ sum binary64 t (N * Q) (not r) (P * D) (D * Q)
    by (inl z) = ap (λ (u : Bool). sum binary64 u (N * Q) (not r) (P * D) (D * Q)) z
    by (inr z) =
        let m : M ≡ 0 = factor-zero M D d z in
        let n : N ≡ 0 = factor-zero N E e (sym k ∙ z) in
        let u : N * Q ≡ 0 = rw n (zero-mul Q) in
        let (v, w) = below-zero r s (P * E) (M * Q) (rw m (zero-mul Q)) h in
        let p : 0 < P * D = mul-pos (factor-pos P E w) d in
        rw (u, v) (zero-plain s (P * D) (D * Q) p ∙ sym (zero-plain t (P * D) (D * Q) p))

same-difference : (x y z : Float) → lt x y ≡ true → eq y z ≡ true → y ⊖ x ≡ z ⊖ x
unfolding sub add neg lt eq
same-difference x nan z h e = absurd (false≢true e)
same-difference x (inf s) nan h e = absurd (false≢true e)
same-difference x (inf s) (inf t) h e = rw (same-signs s t e)
same-difference x (inf s) (fin t n d) h e = absurd (false≢true e)
same-difference x (fin s m f) nan h e = absurd (false≢true e)
same-difference x (fin s m f) (inf t) h e = absurd (false≢true e)
same-difference nan (fin s m f) (fin t n d) h e = refl
same-difference (inf r) (fin s m f) (fin t n d) h e = refl
same-difference (fin r p q) (fin s m f) (fin t n d) h e =
    difference-scaled r s t (m * up f) (n * up d) (p * up q) (down f) (down d) (down q) (down_pos f) (down_pos d) (down_pos q) h (level-parts s t (m * up f * down d) (n * up d * down f) e)

module _ (x y z : Float) (h : lt x y ≡ true) (e : eq y z ≡ true) where
  same-eighths : (k j : ℕ) → eighths k j x y ≡ eighths k j x z
  unfolding eighths
  same-eighths zero j = refl
  same-eighths (suc k) j = rw (same-difference x y z h e, same-eighths k (suc j))

same-between : (x : Float) (xs : List Float) (y z : Float) → Chain lt x (xs ++ (y ∷ [])) → eq y z ≡ true → between (x ∷ (xs ++ (y ∷ []))) ≡ between (x ∷ (xs ++ (z ∷ [])))
unfolding between
same-between x [] y z (next h c) e = rw (same-eighths x y z h e 8 0)
same-between x (w ∷ xs) y z (next h c) e = rw (same-between w xs y z c e)

-- ---- the source's breaks are those of the window, but for the last
chain-at : (x : Float) (xs : List Float) (i : ℕ) → Chain le x xs → i < length xs → le x (get_or xs i nan) ≡ true
chain-at x [] i c h = absurd (omega arith)
chain-at x (y ∷ ys) zero (next p c) h = p
chain-at x (y ∷ ys) (suc i) (next p c) h = le_trans x y _ p (chain-at y ys i c (omega arith))

-- the first is not above one of them
first_below : (x t : Float) (xs : List Float) (i : ℕ) → Chain le x xs → i < suc (length xs) → get_or (x ∷ xs) i nan ≡ t → le t t ≡ true → le x t ≡ true
first_below x t xs zero c h e r = rw e r
first_below x t xs (suc i) c h e r = rw e at (chain-at x xs i c (omega arith))

-- xs is ys, and then a number that equals e
record Ended (e : Float) (xs ys : List Float) : Type 0 where
  last : Float
  equal : eq last e ≡ true
  is : xs ≡ ys ++ (last ∷ [])

ended-more : {e : Float} {xs ys : List Float} (x : Float) → Ended e xs ys → Ended e (x ∷ xs) (x ∷ ys)
ended-more x d = record { last = d.last; equal = d.equal; is = ap (λ (r : List Float). x ∷ r) d.is }

abbrev in_domain : Float → Float → Float → Bool
in_domain lo hi t = le lo t && le t hi

fresh-skip : (p k : Float) (t : Bool) (ks : List Float) → eq p k ≡ true → fresh p (cond t (k ∷ ks) ks) ≡ fresh p ks
unfolding fresh
fresh-skip p k true ks e = rw e
fresh-skip p k false ks e = refl

module _ (lo hi : Float) (wide : lt lo hi ≡ true) where
  number-low : le lo lo ≡ true
  number-low = le_refl lo (le→number lo hi (lt→le lo hi wide)).0

  number-high : le hi hi ≡ true
  number-high = le_refl hi (le→number lo hi (lt→le lo hi wide)).1

  in-domain : (k : Float) → le lo k ≡ true → le k hi ≡ true → in_domain lo hi k ≡ true
  in-domain k l u = (and-eq-true_iff (le lo k) (le k hi)).1 (l, u)

  not-under : (k : Float) → le hi k ≡ true → is_inner lo hi k ≡ false
  not-under k h = rw (le→not-lt hi k h) (and-false (lt lo k))

  not-over : (k : Float) → le k lo ≡ true → is_inner lo hi k ≡ false
  not-over k h = rw (le→not-lt k lo h)

  -- after the domain's end
  none_after : (p : Float) (ks : List Float) → Chain le p ks → le hi p ≡ true → (fresh p (filter (in_domain lo hi) ks) ≡ []) × (filter (is_inner lo hi) ks ≡ [])
  unfolding filter fresh
  none_after p [] c h = (refl, refl)
  none_after p (k ∷ ks) (next l c) h = by (in_domain lo hi k) refl (none_after p ks (lower le le_trans l c) h)
    where
      outside : is_inner lo hi k ≡ false
      outside = not-under k (le_trans hi p k h l)

      by : (t : Bool) → in_domain lo hi k ≡ t → (fresh p (filter (in_domain lo hi) ks) ≡ []) × (filter (is_inner lo hi) ks ≡ [])
          → (fresh p (cond t (k ∷ filter (in_domain lo hi) ks) (filter (in_domain lo hi) ks)) ≡ []) × (cond (is_inner lo hi k) (k ∷ filter (is_inner lo hi) ks) (filter (is_inner lo hi) ks) ≡ [])
      by true i (f, g) =
          let same : eq p k ≡ true = le_antisym p k l (le_trans k hi p ((and-eq-true_iff (le lo k) (le k hi)).0 i).1 h) in
          (fresh-skip p k true (filter (in_domain lo hi) ks) same ∙ f, rw outside g)
      by false i (f, g) = (f, rw outside g)

  -- at the domain's end
  ended : (p z k : Float) (ks : List Float) → Chain le k ks → lt p hi ≡ true → eq k hi ≡ true → Ended hi (fresh p (filter (in_domain lo hi) (k ∷ ks))) (fresh z (filter (is_inner lo hi) (k ∷ ks)))
  unfolding filter fresh
  ended p z k ks c h e =
      let from_end = eq→le hi k (eq-sym hi k ∙ e) in
      let (f, g) = none_after k ks c from_end in
      let inside = in-domain k (le_trans lo hi k (lt→le lo hi wide) from_end) (eq→le k hi e) in
      record { last = k; equal = e; is = rw (inside, not-under k from_end, lt→not-eq p k (lt-eq p hi k h (eq-sym hi k ∙ e)), f, g) }

  -- a knot between, after p
  kept-both : (p k : Float) (ks : List Float) → eq p k ≡ false → lt lo k ≡ true → lt k hi ≡ true → Ended hi (fresh k (filter (in_domain lo hi) ks)) (fresh k (filter (is_inner lo hi) ks))
      → (z : Float) → eq z k ≡ false → Ended hi (fresh p (filter (in_domain lo hi) (k ∷ ks))) (fresh z (filter (is_inner lo hi) (k ∷ ks)))
  unfolding filter fresh
  kept-both p k ks new l u d z f =
      let inside : is_inner lo hi k ≡ true = (and-eq-true_iff (lt lo k) (lt k hi)).1 (l, u) in
      rw (in-domain k (lt→le lo k l) (lt→le k hi u), inside, new, f) (ended-more k d)

  -- between the domain's ends
  after-inner : (p : Float) (ks : List Float) (j : ℕ) → Chain le p ks → lt lo p ≡ true → lt p hi ≡ true → j < length ks → get_or ks j nan ≡ hi
      → Ended hi (fresh p (filter (in_domain lo hi) ks)) (fresh p (filter (is_inner lo hi) ks))
  unfolding filter
  after-inner p [] j c l u b g = absurd (omega arith)
  after-inner p (k ∷ ks) zero (next q c) l u b g = ended p p k ks c u (rw g (eq_refl hi (le→number hi hi number-high).0))
  after-inner p (k ∷ ks) (suc j) (next q c) l u b g =
      by (eq p k) refl (eq k hi) refl (after-inner p ks j (lower le le_trans q c) l u (omega arith) g) (λ v. after-inner k ks j c (lt-le-trans lo p k l q) v (omega arith) g)
    where
      by : (s : Bool) → eq p k ≡ s → (t : Bool) → eq k hi ≡ t → Ended hi (fresh p (filter (in_domain lo hi) ks)) (fresh p (filter (is_inner lo hi) ks))
          → (lt k hi ≡ true → Ended hi (fresh k (filter (in_domain lo hi) ks)) (fresh k (filter (is_inner lo hi) ks)))
          → Ended hi (fresh p (filter (in_domain lo hi) (k ∷ ks))) (fresh p (filter (is_inner lo hi) (k ∷ ks)))
      by true e t f d n = rw (fresh-skip p k (in_domain lo hi k) (filter (in_domain lo hi) ks) e, fresh-skip p k (is_inner lo hi k) (filter (is_inner lo hi) ks) e) d
      by false e true f d n = ended p p k ks c u f
      by false e false f d n =
          let v = le→lt k hi (first_below k hi ks (suc j) c (omega arith) g number-high) f in
          kept-both p k ks e (lt-le-trans lo p k l q) v (n v) p e

  -- at the domain's start
  after-start : (p : Float) (ks : List Float) (j : ℕ) → Chain le p ks → eq p lo ≡ true → j < length ks → get_or ks j nan ≡ hi
      → Ended hi (fresh p (filter (in_domain lo hi) ks)) (fresh nan (filter (is_inner lo hi) ks))
  unfolding filter eq
  after-start p [] j c l b g = absurd (omega arith)
  after-start p (k ∷ ks) zero (next q c) l b g = ended p nan k ks c (eq-lt p lo hi l wide) (rw g (eq_refl hi (le→number hi hi number-high).0))
  after-start p (k ∷ ks) (suc j) (next q c) l b g = by (eq p k) refl (eq k hi) refl (after-start p ks j (lower le le_trans q c) l (omega arith) g)
    where
      by : (s : Bool) → eq p k ≡ s → (t : Bool) → eq k hi ≡ t → Ended hi (fresh p (filter (in_domain lo hi) ks)) (fresh nan (filter (is_inner lo hi) ks))
          → Ended hi (fresh p (filter (in_domain lo hi) (k ∷ ks))) (fresh nan (filter (is_inner lo hi) (k ∷ ks)))
      by true e t f d =
          let at-start = le_trans k p lo (eq→le k p (eq-sym k p ∙ e)) (eq→le p lo l) in
          rw (fresh-skip p k (in_domain lo hi k) (filter (in_domain lo hi) ks) e, not-over k at-start) d
      by false e true f d = ended p nan k ks c (eq-lt p lo hi l wide) f
      by false e false f d =
          let u = le→lt k hi (first_below k hi ks (suc j) c (omega arith) g number-high) f in
          let v = eq-lt lo p k (eq-sym lo p ∙ l) (le→lt p k q e) in
          kept-both p k ks e v u (after-inner k ks j c v u (omega arith) g) nan refl

  started : (k : Float) (ks : List Float) (j : ℕ) → Chain le k ks → eq k lo ≡ true → j < length ks → get_or ks j nan ≡ hi
      → Ended hi (fresh nan (filter (in_domain lo hi) (k ∷ ks))) (first_equal lo (k ∷ ks) ∷ fresh nan (filter (is_inner lo hi) (k ∷ ks)))
  unfolding filter fresh eq first_equal
  started k ks j c l b g =
      let at-start = eq→le k lo l in
      let inside = in-domain k (eq→le lo k (eq-sym lo k ∙ l)) (le_trans k lo hi at-start (lt→le lo hi wide)) in
      rw (inside, not-over k at-start, l) (ended-more k (after-start k ks j c l b g))

  knots-split : (ks : List Float) (i j : ℕ) → Sorted le ks → i < length ks → get_or ks i nan ≡ lo → j < length ks → get_or ks j nan ≡ hi
      → Ended hi (fresh nan (filter (in_domain lo hi) ks)) (first_equal lo ks ∷ fresh nan (filter (is_inner lo hi) ks))
  unfolding filter first_equal
  knots-split [] i j s a e b g = absurd (omega arith)
  knots-split (k ∷ ks) i zero (from c) a e b g = absurd (true≢false (sym (rw g at (first_below k lo ks i c a e number-low)) ∙ lt→not-le lo hi wide))
  knots-split (k ∷ ks) zero (suc j) (from c) a e b g = started k ks j c (rw e (eq_refl lo (le→number lo lo number-low).0)) (omega arith) g
  knots-split (k ∷ ks) (suc i) (suc j) (from c) a e b g = by (eq k lo) refl (knots-split ks i j (tail c) (omega arith) e (omega arith) g)
    where
      by : (t : Bool) → eq k lo ≡ t → Ended hi (fresh nan (filter (in_domain lo hi) ks)) (first_equal lo ks ∷ fresh nan (filter (is_inner lo hi) ks))
          → Ended hi (fresh nan (filter (in_domain lo hi) (k ∷ ks))) (first_equal lo (k ∷ ks) ∷ fresh nan (filter (is_inner lo hi) (k ∷ ks)))
      by true l d = started k ks j c l (omega arith) g
      by false l d =
          let under = le→lt k lo (first_below k lo ks (suc i) c a e number-low) l in
          rw (lt→not-le k lo under, not-over k (lt→le k lo under), l) d

-- ---- the breaks that are kept
chain-end : (x : Float) (ys : List Float) (e h : Float) → Chain lt x (ys ++ (e ∷ [])) → eq e h ≡ true → Chain lt x (ys ++ (h ∷ []))
chain-end x [] e h (next l c) q = next (lt-eq x e h l q) end
chain-end x (y ∷ ys) e h (next l c) q = next l (chain-end y ys e h c q)

every-chain : (s k : ℕ) (x : Float) (ys : List Float) (e : Float) → Chain lt x (ys ++ (e ∷ [])) → Chain lt x (every s k ys ++ (e ∷ []))
unfolding every
every-chain s k x [] e c = c
every-chain s zero x (y ∷ ys) e (next h c) = next h (every-chain s s y ys e c)
every-chain s (suc k) x (y ∷ ys) e (next h c) = every-chain s k x ys e (lower lt lt_trans h c)

-- numbers that rise to h, of which some are kept, and then e, which h equals
every-ended : (s k : ℕ) (x : Float) (ys : List Float) (h e : Float) → eq h e ≡ true → Chain lt x (ys ++ (h ∷ [])) → Ended e (distinct_from x (every s k (ys ++ (h ∷ [])) ++ (e ∷ []))) (x ∷ every s k ys)
unfolding distinct_from every
every-ended s zero x [] h e q (next l c) = record { last = h; equal = q; is = rw (lt→not-eq x h l, q) }
every-ended s (suc k) x [] h e q (next l c) =
    record { last = e; equal = eq_refl e (le→number h e (eq→le h e q)).1; is = rw (lt→not-eq x e (lt-eq x h e l q)) }
every-ended s zero x (y ∷ ys) h e q (next l c) = rw (lt→not-eq x y l) (ended-more x (every-ended s s y ys h e q c))
every-ended s (suc k) x (y ∷ ys) h e q (next l c) = every-ended s k x ys h e q (lower lt lt_trans l c)

-- ---- the law
module _ (a : Axis) (ok : refusal_of_knots a ≡ 0) where
  whole : Within a (low a) (high a)
  whole =
      let wide = (accepted a ok).wide in
      let n = le→number (low a) (high a) (lt→le (low a) (high a) wide) in
      (wide, le_refl (low a) n.0, le_refl (high a) n.1)

  start_first : start_of a (low a) ≡ first_equal (low a) a.knots
  unfolding start_of
  start_first = rw (eq_refl (low a) (le→number (low a) (low a) whole.1).0)

  end-high : end_of a (high a) ≡ high a
  unfolding end_of
  end-high = by (eq (high a) (high a))
    where
      by : (t : Bool) → cond t (high a) (high a) ≡ high a
      by true = refl
      by false = refl

  source-breaks : Ended (high a) (source_breaks a) (start_of a (low a) ∷ inner_of a (low a) (high a))
  unfolding source_breaks inner_of
  source-breaks =
      let A = accepted a ok in
      let ks = a.knots in
      rw (start_first, fresh-nan (filter (in_domain (low a) (high a)) ks), fresh-nan (filter (is_inner (low a) (high a)) ks))
      (knots-split (low a) (high a) A.wide ks a.degree a.controls (ascending-sorted ks (ascends A)) (omega arith) refl (omega arith) refl)

  rises : Chain lt (start_of a (low a)) (inner_of a (low a) (high a) ++ (high a ∷ []))
  rises = rw end-high at (breaks-rise a ok (low a) (high a) whole)

  -- as many as the window has breaks
  pub source-count : length (source_breaks a) ≡ length (inner_of a (low a) (high a)) + 2
  source-count = let d = source-breaks in omega (arith, ap length d.is, length-append (inner_of a (low a) (high a)) (d.last ∷ []))

  abbrev skip : ℕ
  skip = stride (length (inner_of a (low a) (high a)) + 2) - 1

  source-thinned : Ended (high a) (source_thinned a) (start_of a (low a) ∷ every skip skip (inner_of a (low a) (high a)))
  unfolding source_thinned distinct every
  source-thinned =
      let d = source-breaks in
      let x = start_of a (low a) in
      let ys = inner_of a (low a) (high a) in
      rw (source-count, d.is)
      (every-ended skip skip x ys d.last (high a) d.equal (chain-end x ys (high a) d.last rises (eq-sym (high a) d.last ∙ d.equal)))

  pub source-values : values_of a (low a) (high a) ≡ source_values a
  unfolding values_of source_values every
  source-values =
      let d = source-thinned in
      let x = start_of a (low a) in
      let ys = inner_of a (low a) (high a) in
      rw (thinned-kept a ok (low a) (high a) whole, end-high, d.is)
      (ap (λ (r : List Float). r ++ (high a ∷ [])) (same-between x (every skip skip ys) (high a) d.last (every-chain skip skip x ys (high a) rises) (eq-sym (high a) d.last ∙ d.equal)))
