-- Laws of a parameter among the knots: what snapping gives, and what holds of a span. Assumes nothing.
use Rattle.std.specs.Prelude.{◌≡◌, Bool, not, cond, ◌||◌, get_or, Float}
use Rattle.std.proofs.Math.Path.{refl, sym}
use Rattle.std.proofs.Common.{◌∙◌, subst, arith}
use Rattle.std.proofs.Math.Bool.{true, false, and-eq-true_iff, true≢false}
use Rattle.std.proofs.lemmas.Bool.{false≢true}
use mathlib.Core.List.{List, [], ◌∷◌}
use Prim.Native.Nat.{ℕ, zero, suc, ◌+◌, ◌-◌, ◌≤◌, ◌<◌, min, max}
use Rattle.std.proofs.Math.Dec.{ltb, leb-suc-suc}
use Rattle.std.proofs.Math.ListN.{length}
use Rattle.std.specs.Float.{nan}
use Rattle.std.specs.Float.Ieee.{lt, le, eq, ne, is_nan}
use borrow.Author.Tests.{ltb-true, ltb-false, lt-ltb, le-ltb, not-true}
use Rattle.float64.specs.Operators.{◌⊖◌}
use Rattle.float64.specs.Functions.{is_finite, clamp}
use Rattle.float64.specs.Order.{never, finite→number, le→not-lt, le_trans, le_not_lt, lt_not_le, lt→le, le→number, le_refl, le_lt_trans, lt-le-trans, le_antisym, eq-sym, lt-eq}
use Rattle.spline.specs.declared.parameter.KnotSide.{KnotSide}
use Rattle.spline.specs.declared.parameter.KnotSide.TheVariants.{Left, Right}
use Rattle.spline.specs.declared.parameter.Snapped.TheVariants.{At, Outside}
use Rattle.spline.specs.KnotLaws.{accepted, ascends}
use Rattle.spline.specs.Knots.{Axis, knot, low, high, ascending, refusal_of_knots, near, snapped, count, from_left, span_at}

-- ---- snap
-- the three ways to an answer: u itself, the lower end, the upper end
data Way (lo hi u : Float) : Float → Type 0 where
  kept : is_finite u ≡ true → lt u lo ≡ false → lt hi u ≡ false → Way lo hi u u
  raised : lt u lo ≡ true → Way lo hi u lo
  lowered : lt u lo ≡ false → lt hi u ≡ true → Way lo hi u hi

way : (lo hi u v : Float) → snapped lo hi u ≡ At v → Way lo hi u v
unfolding snapped
way lo hi u v = by (is_finite u) refl (lt u lo) refl (lt hi u) refl (near (hi ⊖ lo) u lo) (near (hi ⊖ lo) u hi)
  where
    same : {x : Float} → At x ≡ At v → Way lo hi u x → Way lo hi u v
    same {x} e w = let p : x ≡ v = cc in subst (Way lo hi u) p w

    none : Outside ≡ At v → Way lo hi u v
    none e = let z : ◌≡◌ {A = ℕ} 0 1 = cc in absurd (omega arith)

    by : (f : Bool) → is_finite u ≡ f → (b : Bool) → lt u lo ≡ b → (a : Bool) → lt hi u ≡ a → (n m : Bool)
        → cond (not f) Outside (cond b (cond n (At lo) Outside) (cond a (cond m (At hi) Outside) (At u))) ≡ At v → Way lo hi u v
    by false _ b _ a _ n m e = none e
    by true f true b a _ true m e = same e (raised b)
    by true f true b a _ false m e = none e
    by true f false b true a n true e = same e (lowered b a)
    by true f false b true a n false e = none e
    by true f false b false a n m e = same e (kept f b a)

-- a parameter that snap gives is the clamped one, bit for bit
pub snap-clamp : (lo hi u v : Float) → snapped lo hi u ≡ At v → v ≡ clamp u lo hi
unfolding clamp
snap-clamp lo hi u v e = by (way lo hi u v e)
  where
    by : {v : Float} → Way lo hi u v → v ≡ cond (lt u lo) lo (cond (lt hi u) hi u)
    by (kept f b a) = simp (b, a)
    by (raised b) = simp b
    by (lowered b a) = simp (b, a)

-- a finite parameter in the domain from lo to hi
pub record Inside (lo hi v : Float) : Type 0 where
  pub finite : is_finite v ≡ true
  pub from_low : le lo v ≡ true
  pub to_high : le v hi ≡ true

pub inside-kept : (lo hi v : Float) → Inside lo hi v → snapped lo hi v ≡ At v
unfolding snapped
inside-kept lo hi v i = simp (i.finite, le→not-lt lo v i.from_low, le→not-lt v hi i.to_high)

module _ (lo hi : Float) (l : is_finite lo ≡ true) (h : is_finite hi ≡ true) (lh : le lo hi ≡ true) where
  pub snap-inside : (u v : Float) → snapped lo hi u ≡ At v → Inside lo hi v
  snap-inside u v e = by (way lo hi u v e)
    where
      by : {v : Float} → Way lo hi u v → Inside lo hi v
      by (kept f b a) = record {
        finite = f;
        from_low = simp (le_not_lt lo u (finite→number lo l) (finite→number u f), b);
        to_high = simp (le_not_lt u hi (finite→number u f) (finite→number hi h), a);
      }
      by (raised b) = record { finite = l; from_low = le_refl lo (finite→number lo l); to_high = lh }
      by (lowered b a) = record { finite = h; from_low = lh; to_high = le_refl hi (finite→number hi h) }

  pub snap-snap : (u v : Float) → snapped lo hi u ≡ At v → snapped lo hi v ≡ At v
  snap-snap u v e = inside-kept lo hi v (snap-inside u v e)

-- ---- the count of the knots that pass a test
ascending-rest : (k : Float) (ks : List Float) → ascending (k ∷ ks) ≡ true → ascending ks ≡ true
unfolding ascending
ascending-rest k [] a = refl
ascending-rest k (l ∷ ks) a = ((and-eq-true_iff (le k l) (ascending (l ∷ ks))).0 a).1

-- Of a test that every number below a passing one passes, on ascending knots: those that pass stand first, so the count is where they end.
module _ (f : Float → Bool) (lower : (x y : Float) → le x y ≡ true → f y ≡ true → f x ≡ true) where
  none_pass : (k : Float) (ks : List Float) → ascending (k ∷ ks) ≡ true → f k ≡ false → count f ks ≡ 0
  unfolding ascending count
  none_pass k [] a h = refl
  none_pass k (l ∷ ks) a h =
      let t = (and-eq-true_iff (le k l) (ascending (l ∷ ks))).0 a in
      let g = never (f l) (λ g. true≢false (sym (lower k l t.0 g) ∙ h)) in
      simp g (none_pass l ks t.1 g)

  pub first-pass : (ks : List Float) → ascending ks ≡ true → (i : ℕ) → i < length ks → f (get_or ks i nan) ≡ ltb i (count f ks)
  unfolding count
  first-pass [] a i h = absurd (omega arith)
  first-pass (k ∷ ks) a i h = by (f k) refl i h (first-pass ks (ascending-rest k ks a))
    where
      by : (t : Bool) → f k ≡ t → (i : ℕ) → i < length (k ∷ ks) → ((j : ℕ) → j < length ks → f (get_or ks j nan) ≡ ltb j (count f ks))
          → f (get_or (k ∷ ks) i nan) ≡ ltb i (cond t (suc (count f ks)) (count f ks))
      by true e zero h rest = e ∙ sym (lt-ltb 0 (suc (count f ks)) (omega arith))
      by true e (suc j) h rest = rest j (omega arith) ∙ sym (leb-suc-suc (suc j) (count f ks))
      by false e zero h rest = e ∙ sym (le-ltb 0 (count f ks) (omega (arith, none_pass k ks a e)))
      by false e (suc j) h rest =
          let z = none_pass k ks a e in
          rest j (omega arith) ∙ le-ltb j (count f ks) (omega arith) ∙ sym (le-ltb (suc j) (count f ks) (omega arith))

-- the test of the knots that come before u: below it for a limit from the left, else not above it
abbrev pub before : Bool → Float → Float → Bool
before left u k = cond left (lt k u) (le k u)

before-lower : (left : Bool) (u x y : Float) → le x y ≡ true → before left u y ≡ true → before left u x ≡ true
before-lower true u x y h k = le_lt_trans x y u h k
before-lower false u x y h k = le_trans x y u h k

-- how many of the knots come before u, at least lo and at most hi
abbrev pub rank : Bool → Float → List Float → ℕ → ℕ → ℕ
rank left u ks lo hi = max lo (min (count (before left u) ks) hi)

module _ (left : Bool) (u : Float) (ks : List Float) (a : ascending ks ≡ true) where
  abbrev N : ℕ
  N = count (before left u) ks

  before-count : (i : ℕ) → i < length ks → before left u (get_or ks i nan) ≡ ltb i N
  before-count = first-pass (before left u) (before-lower left u) ks a

  before→below : (i : ℕ) → i < length ks → before left u (get_or ks i nan) ≡ true → i < N
  before→below i h t = ltb-true i N (sym (before-count i h) ∙ t)

  after→above : (i : ℕ) → i < length ks → before left u (get_or ks i nan) ≡ false → N ≤ i
  after→above i h t = ltb-false i N (sym (before-count i h) ∙ t)

  -- a step of the bisection, up or down
  pub rank_up : (lo mid hi : ℕ) → lo ≤ mid → mid < hi → hi ≤ length ks → before left u (get_or ks mid nan) ≡ true → rank left u ks lo hi ≡ rank left u ks (mid + 1) hi
  rank_up lo mid hi l h w t = let n = before→below mid (omega arith) t in omega arith

  pub rank_down : (lo mid hi : ℕ) → lo ≤ mid → mid < hi → hi ≤ length ks → before left u (get_or ks mid nan) ≡ false → rank left u ks lo hi ≡ rank left u ks lo mid
  rank_down lo mid hi l h w t = let n = after→above mid (omega arith) t in omega arith

-- ---- span
pred-held : (p n k : ℕ) → max p (min (k - 1) (n - 1)) ≡ max (p + 1) (min k n) - 1
pred-held p n k = rw pred-min (pred-max (min k n))
  where
    pred-min : min (k - 1) (n - 1) ≡ min k n - 1
    pred-min = omega arith

    pred-max : (m : ℕ) → max p (m - 1) ≡ max (p + 1) m - 1
    pred-max m = omega arith

-- the rank, held between the domain's ends, is one more than the span
pub span-rank : (a : Axis) (side : KnotSide) (u : Float) (left : Bool) → left ≡ from_left a side u → span_at a side u ≡ rank left u a.knots (a.degree + 1) a.controls - 1
unfolding span_at
span-rank a side u left e = rw (← e) (by left)
  where
    by : (t : Bool) → max a.degree (min (cond t (count (λ k. lt k u) a.knots) (count (λ k. le k u) a.knots) - 1) (a.controls - 1))
        ≡ rank t u a.knots (a.degree + 1) a.controls - 1
    by true = pred-held a.degree a.controls (count (λ k. lt k u) a.knots)
    by false = pred-held a.degree a.controls (count (λ k. le k u) a.knots)

-- u lies in the span from k to l, which has a width: above its start for a limit from the left, else below its end
pub record Between (left : Bool) (k u l : Float) : Type 0 where
  pub wide : lt k l ≡ true
  pub not-below : le k u ≡ true
  pub not-above : le u l ≡ true
  pub above-start : left ≡ true → lt k u ≡ true
  pub below_end : left ≡ false → lt u l ≡ true

between : (left : Bool) (k u l : Float) → is_nan l ≡ false → before left u k ≡ true → before left u l ≡ false → Between left k u l
between true k u l n s e =
    let b : le u l ≡ true = simp (le_not_lt u l (le→number k u (lt→le k u s)).1 n, e) in
    record { wide = lt-le-trans k u l s b; not-below = lt→le k u s; not-above = b; above-start = λ _. s; below_end = λ f. absurd (true≢false f) }
between false k u l n s e =
    let b : lt u l ≡ true = simp (lt_not_le u l (le→number k u s).1 n, e) in
    record { wide = le_lt_trans k u l s b; not-below = s; not-above = lt→le u l b; above-start = λ f. absurd (false≢true f); below_end = λ _. b }

pub record Spans (a : Axis) (side : KnotSide) (u : Float) (s : ℕ) : Type 0 where
  pub from-degree : a.degree ≤ s
  pub below-controls : s < a.controls
  pub holds : Between (from_left a side u) (knot a s) u (knot a (s + 1))

pub from-left-high : (a : Axis) (side : KnotSide) (u : Float) → eq u (high a) ≡ true → from_left a side u ≡ true
unfolding from_left
from-left-high a Left u e = simp e
from-left-high a Right u e = e

module _ (a : Axis) (u : Float) (ok : refusal_of_knots a ≡ 0) (l : le (low a) u ≡ true) (h : le u (high a) ≡ true) where
  at_high : eq u (high a) ≡ true → lt (low a) u ≡ true
  at_high e = lt-eq (low a) (high a) u (accepted a ok).wide (eq-sym (high a) u ∙ e)

  off-low : ne u (low a) ≡ true → lt (low a) u ≡ true
  unfolding ne
  off-low e =
      let n = le→number (low a) u l in
      simp (lt_not_le (low a) u n.0 n.1, never (le u (low a)) (λ g. true≢false (sym (le_antisym u (low a) g l) ∙ not-true (eq u (low a)) e)))

  -- no limit from the left at the lower end
  from-left-low : (side : KnotSide) → from_left a side u ≡ true → lt (low a) u ≡ true
  unfolding from_left
  from-left-low Left f = by (eq u (high a)) refl f
    where
      by : (t : Bool) → eq u (high a) ≡ t → (t || ne u (low a)) ≡ true → lt (low a) u ≡ true
      by true e f = at_high e
      by false e f = off-low f
  from-left-low Right f = at_high f

  low-before : (left : Bool) → (left ≡ true → lt (low a) u ≡ true) → before left u (low a) ≡ true
  low-before true f = f refl
  low-before false f = l

  high_after : (left : Bool) → (eq u (high a) ≡ true → left ≡ true) → before left u (high a) ≡ false
  high_after true f = le→not-lt u (high a) h
  high_after false f = never (le (high a) u) (λ g. false≢true (f (le_antisym u (high a) h g)))

  pub span-holds : (side : KnotSide) → Spans a side u (span_at a side u)
  span-holds side =
      let A = accepted a ok in
      let left = from_left a side u in
      let ks = a.knots in
      let s = span_at a side u in
      let n = before→below left u ks (ascends A) a.degree (omega arith) (low-before left (from-left-low side)) in
      let m = after→above left u ks (ascends A) a.controls (omega arith) (high_after left (from-left-high a side u)) in
      let e : s + 1 ≡ count (before left u) ks = omega (arith, span-rank a side u left refl) in
      record {
        from-degree = omega arith;
        below-controls = omega arith;
        holds =
            between left (knot a s) u (knot a (s + 1)) (finite→number (knot a (s + 1)) (A.finite (s + 1) (omega arith)))
            (before-count left u ks (ascends A) s (omega arith) ∙ lt-ltb s _ (omega arith))
            (before-count left u ks (ascends A) (s + 1) (omega arith) ∙ le-ltb (s + 1) _ (omega arith));
      }

  -- and no other two neighbours have u between them so: degree 0 of The NURBS Book's equation 2.5
  pub span-unique : (side : KnotSide) (i : ℕ) → i + 1 < length a.knots → before (from_left a side u) u (knot a i) ≡ true → before (from_left a side u) u (knot a (i + 1)) ≡ false → i ≡ span_at a side u
  span-unique side i h p q =
      let A = accepted a ok in
      let left = from_left a side u in
      let ks = a.knots in
      let n = before→below left u ks (ascends A) a.degree (omega arith) (low-before left (from-left-low side)) in
      let m = after→above left u ks (ascends A) a.controls (omega arith) (high_after left (from-left-high a side u)) in
      let b = before→below left u ks (ascends A) i (omega arith) p in
      let c = after→above left u ks (ascends A) (i + 1) h q in
      omega (arith, span-rank a side u left refl)
