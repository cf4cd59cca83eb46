-- Where a parameter that is brought into the domain of an axis lies, and when it is a NaN. Assumes nothing.
use Rattle.std.specs.Prelude.{◌≡◌, refl, List, Bool, true, false, not, cond, ◌&&◌, ℕ, ◌+◌, ◌≤◌, T, Float}
use Rattle.std.proofs.Common.{sym, ap, ◌∙◌, true≢false, arith}
use Rattle.std.proofs.Math.Bool.{or-true, and-eq-true_iff}
use Rattle.std.proofs.lemmas.Bool.{false≢true}
use Rattle.std.specs.Float.{nan, inf, fin, binary64}
use Rattle.std.specs.Float.Ieee.{add, lt, le, is_nan, fits}
use Rattle.std.specs.Float.Ieee.Fits.{sub-fits}
use Rattle.float64.specs.Operators.{◌⊕◌, ◌⊖◌}
use Rattle.float64.specs.Functions.{is_finite, abs, clamp, rem_euclid}
use Rattle.float64.specs.Order.{le_refl, le→number, le_not_lt, lt→le, le_trans}
use Rattle.float64.specs.Nonneg.{finite-add-number}
use Rattle.float64.specs.Differences.{apart, difference-above}
use Rattle.float64.specs.Magnitude.{Positive, positive, is_positive}
use Rattle.float64.specs.RemainderLaws.{rem-euclid-exact, rem-euclid-special}
use Rattle.spline.specs.Knots.{Axis, knot, low, high, refusal_of_knots}
use Rattle.spline.specs.KnotLaws.{accepted}
use Rattle.domain.specs.declared.Counts.{Counts}
use Rattle.domain.specs.Intervals.{axis_of, interval_of, wrapped, wrapped_on}

-- ---- a parameter on an axis, of a domain from lo to hi

module _ (periodic : Bool) (lo hi t : Float) where
  pub wrap-flagless : periodic ≡ false → wrapped periodic lo hi t ≡ t
  unfolding wrapped
  wrap-flagless n = simp n

  pub wrap-not-finite : is_finite t ≡ false → wrapped periodic lo hi t ≡ t
  unfolding wrapped
  wrap-not-finite f = simp (f, or-true)

  pub wrap-inside : le lo t ≡ true → le t hi ≡ true → wrapped periodic lo hi t ≡ t
  unfolding wrapped
  wrap-inside l h = simp (l, h, or-true)

  pub wrap-outside : periodic ≡ true → is_finite t ≡ true → (le lo t && le t hi) ≡ false → wrapped periodic lo hi t ≡ clamp (lo ⊕ rem_euclid (t ⊖ lo) (hi ⊖ lo)) lo hi
  unfolding wrapped
  wrap-outside p f o = simp (p, f, o)

-- ---- the parts of the answer

clamp-within : (x lo hi : Float) → le lo hi ≡ true → is_nan x ≡ false → (le lo (clamp x lo hi) ≡ true) × (le (clamp x lo hi) hi ≡ true)
unfolding clamp
clamp-within x lo hi w n = by (lt x lo) (lt hi x) refl refl
  where
    ends : (is_nan lo ≡ false) × (is_nan hi ≡ false)
    ends = le→number lo hi w

    by : (a b : Bool) → lt x lo ≡ a → lt hi x ≡ b → (le lo (cond a lo (cond b hi x)) ≡ true) × (le (cond a lo (cond b hi x)) hi ≡ true)
    by true b e f = (le_refl lo ends.0, w)
    by false true e f = (w, le_refl hi ends.1)
    by false false e f = (le_not_lt lo x ends.0 n ∙ ap not e, le_not_lt x hi n ends.1 ∙ ap not f)

clamp-nan : (lo hi : Float) → clamp nan lo hi ≡ nan
unfolding clamp lt
clamp-nan lo nan = refl
clamp-nan lo (inf s) = refl
clamp-nan lo (fin s m e) = refl

add-nan : (x : Float) → x ⊕ nan ≡ nan
unfolding add
add-nan nan = refl
add-nan (inf s) = refl
add-nan (fin s m e) = refl

-- a remainder of what is not finite
rem-nan : (x y : Float) → is_finite x ≡ false → rem_euclid x y ≡ nan
unfolding is_finite
rem-nan nan y f = rem-euclid-special.of_nan y
rem-nan (inf s) y f = rem-euclid-special.of-infinity s y
rem-nan (fin s m e) y f = absurd (true≢false f)

-- and of finite numbers, by one that is above 0
rem-finite : (x y : Float) → T (fits binary64 x) → T (fits binary64 y) → is_finite x ≡ true → Positive y → is_finite (rem_euclid x y) ≡ true
unfolding is_finite
rem-finite nan y F G f p = absurd (false≢true f)
rem-finite (inf s) y F G f p = absurd (false≢true f)
rem-finite (fin s m e) _ F G f (positive n d N) = (rem-euclid-exact s m e false n d F G N).finite

smaller-finite : (x y : Float) → is_finite y ≡ true → le (abs x) (abs y) ≡ true → is_finite x ≡ true
unfolding is_finite abs le
smaller-finite nan y f h = absurd (false≢true h)
smaller-finite (inf s) nan f h = absurd (false≢true h)
smaller-finite (inf s) (inf t) f h = absurd (false≢true f)
smaller-finite (inf s) (fin t n d) f h = absurd (false≢true h)
smaller-finite (fin s m e) y f h = refl

-- ---- with the flag

-- w lies in the domain where t - lo is finite, and is a NaN where that overflows
pub record Brought (lo hi t w : Float) : Type 0 where
  pub inside : is_finite (t ⊖ lo) ≡ true → (le lo w ≡ true) × (le w hi ≡ true)
  pub lost : is_finite (t ⊖ lo) ≡ false → w ≡ nan

-- a finite parameter, by doubles lo below hi of which hi - lo is finite
pub wrap-domain : (lo hi t : Float) → T (fits binary64 lo) → T (fits binary64 hi) → is_finite lo ≡ true → is_finite hi ≡ true → is_finite t ≡ true → lt lo hi ≡ true → is_finite (hi ⊖ lo) ≡ true
    → Brought lo hi t (wrapped true lo hi t)
wrap-domain lo hi t F G f g h w k = by (le lo t && le t hi) refl
  where
    by : (b : Bool) → (le lo t && le t hi) ≡ b → Brought lo hi t (wrapped true lo hi t)
    by true e =
        let o = (and-eq-true_iff (le lo t) (le t hi)).0 e in
        let small = smaller-finite (t ⊖ lo) (hi ⊖ lo) k (apart lo t hi f h g o.0 o.1).0 in
        record { inside = λ i. rw (wrap-inside true lo hi t o.0 o.1) o; lost = λ i. absurd (true≢false (sym small ∙ i)) }
    by false e =
        let o = wrap-outside true lo hi t refl h e in
        let rest : is_finite (t ⊖ lo) ≡ true → is_finite (rem_euclid (t ⊖ lo) (hi ⊖ lo)) ≡ true = λ i. rem-finite (t ⊖ lo) (hi ⊖ lo) (sub-fits binary64 t lo) (sub-fits binary64 hi lo) i (is_positive _ k (difference-above lo hi F G f g w)) in
        record {
          inside = λ i. rw o (clamp-within _ lo hi (lt→le lo hi w) (finite-add-number lo _ f (rest i)));
          lost = λ i. rw (o, rem-nan (t ⊖ lo) (hi ⊖ lo) i, add-nan lo) (clamp-nan lo hi);
        }

-- ---- on an axis whose knots are accepted

module _ (a : Axis) (ok : refusal_of_knots a ≡ 0) where
  -- the domain's width is at most the range of all knots
  width-finite : is_finite (high a ⊖ low a) ≡ true
  width-finite =
      let A = accepted a ok in
      let last = a.controls + a.degree in
      let finite : (i : ℕ) → i ≤ last → is_finite (knot a i) ≡ true = λ i l. A.finite i (omega arith) in
      let f = finite 0 (omega arith) in
      let g = finite a.degree (omega arith) in
      let h = finite a.controls (omega arith) in
      let k = finite last (omega arith) in
      let below-low = A.in_order 0 a.degree (omega arith) (omega arith) in
      let wide = lt→le _ _ A.wide in
      smaller-finite _ _ A.range
      (le_trans _ _ _ (apart (knot a 0) (low a) (high a) f g h below-low wide).1
      (apart (knot a 0) (high a) (knot a last) f h k (le_trans _ _ _ below-low wide) (A.in_order a.controls last (omega arith) (omega arith))).0)

-- on knots that are doubles
pub axis-wrap-domain : (n : Counts) (ks : List Float) (t : Float) → refusal_of_knots (axis_of n ks) ≡ 0 → n.periodic ≡ true
    → T (fits binary64 (low (axis_of n ks))) → T (fits binary64 (high (axis_of n ks))) → is_finite t ≡ true
    → Brought (low (axis_of n ks)) (high (axis_of n ks)) t (wrapped_on (interval_of n ks) t)
axis-wrap-domain n ks t ok p F G f =
    let a = axis_of n ks in
    let A = accepted a ok in
    rw p (wrap-domain (low a) (high a) t F G (A.finite _ (omega arith)) (A.finite _ (omega arith)) f A.wide (width-finite a ok))
