-- Accepted knots that pass the code's test of their sizes are bounded. Assumes nothing.
use Rattle.std.specs.Prelude.{◌≡◌, refl, ◌⊎◌, Bool, true, false, not, ◌&&◌, ◌||◌, List, [], ◌∷◌, ℕ, zero, suc, ◌+◌, ◌-◌, ◌*◌, ◌<◌, pos, negsuc, length, drop, get_or, Float}
use Rattle.std.proofs.Common.{sym, ◌∙◌, inl, inr, ⊎_elim, true≢false, zero-le, le_refl, lt_of_lt_of_le, le_of_suc-le-suc, eq-or-lt_of_le, mul-pos, arith, pow_pos, lit<, lit≤, le-ltb}
use Rattle.std.proofs.Math.Bool.{and-true}
use Rattle.std.proofs.lemmas.Bool.{false≢true}
use Rattle.std.proofs.Math.Nat.{sub_self}
use Rattle.std.specs.Float.{nan, inf, fin, binary64}
use Rattle.std.specs.Float.Ieee.{up, down, sum, sub, le, eq, of_bits}
use Rattle.std.specs.Float.Ieee.Fits.{up_pos, down_pos}
use Rattle.float64.specs.Operators.{◌⊖◌, 0·}
use Rattle.float64.specs.Functions.{is_finite, abs}
use Rattle.float64.specs.Order.{eq→le, eq-sym, eq_trans, eq-zeros}
use Rattle.float64.specs.Nonneg.{Nonneg, infinite, finite}
use Rattle.float64.specs.Differences.{apart}
use Rattle.float64.specs.Magnitude.{Within, within, Held, round-within, within-finite, within-of-le, at_least, Mag, Floor, mag-finite, mag-sub, mag-of-le, mag-between, floor-of-le, abs_positive, floor-positive}
use Rattle.spline.specs.Each.{Each, both, each_at, tells_more, tells_all}
use Rattle.spline.specs.Knots.{Axis, knot, refusal_of_knots}
use Rattle.spline.specs.KnotLaws.{to_first, first-none, first_some, accepted}
use Rattle.basis.specs.Signs.{missing, nothing, NotBelow, nought, above, difference-not-below}
use Rattle.basis.specs.Magnitude.{Bounded}

-- ---- the test

-- 2 ^ -64
abbrev pub least_width : Float
least_width = of_bits binary64 0x3bf0_0000_0000_0000

-- 2 ^ 900
abbrev pub most_size : Float
most_size = of_bits binary64 0x7830_0000_0000_0000

-- two knots in a row are equal, or at least the least width apart
abbrev pub gap_fits : Float → Float → Bool
gap_fits k l = eq k l || le least_width (l ⊖ k)

unfoldable pub gaps_fit : List Float → Bool
gaps_fit [] = true
gaps_fit (k ∷ ks) = to_first gap_fits k ks && gaps_fit ks

-- the first and the last knot are at most the largest size
unfoldable pub ends_fit : List Float → Bool
ends_fit ks = le (abs (get_or ks 0 nan)) most_size && le (abs (get_or ks (length ks - 1) nan)) most_size

pub gaps-each : Each (to_first gap_fits) gaps_fit
unfolding gaps_fit
gaps-each = record { none = refl; more = λ k ks. refl }

-- A walk that does not stop: b tells whether the gaps before i fit.
module _ (ks : List Float) (i : ℕ) (b : Bool) (e : gaps_fit ks ≡ (b && gaps_fit (drop i ks))) where
  pub gaps-more : i + 1 < length ks → gaps_fit ks ≡ ((b && gap_fits (get_or ks i nan) (get_or ks (i + 1) nan)) && gaps_fit (drop (i + 1) ks))
  gaps-more l = rw (first_some gap_fits (get_or ks i nan) ks (i + 1) l) at (tells_more gaps-each ks i b e (omega arith))

  pub gaps-all : length ks ≡ i + 1 → b ≡ gaps_fit ks
  gaps-all l =
      sym (and-true b)
      ∙ tells_all gaps-each ks (i + 1) (b && true) (rw (first-none gap_fits (get_or ks i nan) ks (i + 1) (omega arith)) at (tells_more gaps-each ks i b e (omega arith))) (omega arith)

least-floor : Floor 1010 least_width
unfolding of_bits
least-floor = record { least = at_least 1 (negsuc 63) (lit≤ tt) }

most-mag : Mag 1974 most_size
unfolding of_bits
most-mag = record { most = within false 1 (pos 900) (lit≤ tt) }

-- ---- differences

none-held : Held 0
none-held = record { digits = 0; place = 0; short = lit< tt; is = refl; under = lit< tt }

zero-size : {x : Float} → Within 0 x → eq x 0· ≡ true
unfolding of_bits
zero-size (within s zero e h) = eq-zeros s false e (pos 0)
zero-size (within s (suc m) e h) = absurd (omega (arith, lt_of_lt_of_le (mul-pos (mul-pos {m = suc m} (omega arith) (up_pos e)) (pow_pos 1074)) h))

within-abs : {b : ℕ} {x : Float} → Within b x → Within b (abs x)
unfolding abs
within-abs (within s m e h) = within false m e h

abs-nonneg : {x : Float} → Nonneg x → abs x ≡ x
unfolding abs
abs-nonneg infinite = refl
abs-nonneg (finite m e) = refl

self-sum : (s : Bool) (a c : ℕ) → 0 < c → Within 0 (sum binary64 s a (not s) a c)
unfolding sum
self-sum true a c C = rw (le-ltb a a (le_refl a), sub_self a) (round-within false 0 c C none-held zero-le)
self-sum false a c C = rw (le-ltb a a (le_refl a), sub_self a) (round-within false 0 c C none-held zero-le)

self : (x : Float) → is_finite x ≡ true → Within 0 (x ⊖ x)
unfolding is_finite sub
self nan f = absurd (false≢true f)
self (inf s) f = absurd (false≢true f)
self (fin s m e) f = self-sum s (m * up e * down e) (down e * down e) (mul-pos (down_pos e) (down_pos e))

equal-sub : (x y : Float) → is_finite x ≡ true → is_finite y ≡ true → eq x y ≡ true → eq (y ⊖ x) 0· ≡ true
equal-sub x y f g e = zero-size (within-of-le (y ⊖ x) (within-abs (self x f)) (apart x y x f g f (eq→le x y e) (eq→le y x (eq-sym y x ∙ e))).0)

-- a difference that is not 0 is of sign plus
rising : (x y : Float) → is_finite x ≡ true → is_finite y ≡ true → le x y ≡ true → eq (y ⊖ x) 0· ≡ false → abs (y ⊖ x) ≡ y ⊖ x
unfolding abs of_bits
rising x y f g l n = by (difference-not-below x y f g l) n
  where
    by : {w : Float} → NotBelow w → eq w 0· ≡ false → abs w ≡ w
    by (nought missing) n = refl
    by (nought (nothing s)) n = absurd (true≢false (sym (eq-zeros s false (pos 0) (pos 0)) ∙ n))
    by (above p) n = abs-nonneg p

-- ---- the widths of knots that are not neighbours

-- x equals y, or the two are at least the least width apart
abbrev Width : Float → Float → Type 0
Width x y = (eq x y ≡ true) ⊎ Floor 1010 (abs (y ⊖ x))

-- at most the largest size
abbrev Small : Float → Type 0
Small x = Mag 1974 x

module _ {x y : Float} (X : Small x) (Y : Small y) where
  difference : Mag 1975 (y ⊖ x)
  difference = mag-sub (omega arith) (omega arith) (omega arith) Y X

  wider : {w : Float} → Floor 1010 w → le w (abs (y ⊖ x)) ≡ true → Floor 1010 (abs (y ⊖ x))
  wider W l = floor-of-le (abs (y ⊖ x)) (within-finite (within-abs difference.most)) W l

  neighbours : gap_fits x y ≡ true → Width x y
  neighbours h = by (eq x y) refl h
    where
      by : (t : Bool) → eq x y ≡ t → (t || le least_width (y ⊖ x)) ≡ true → Width x y
      by true e h = inl e
      by false e h = let F = floor-of-le (y ⊖ x) (mag-finite difference) least-floor h in inr (rw (abs_positive (floor-positive F)) F)

  width-floor : le x y ≡ true → eq (y ⊖ x) 0· ≡ false → Width x y → Floor 1010 (y ⊖ x)
  width-floor l n (inl e) = absurd (true≢false (sym (equal-sub x y (mag-finite X) (mag-finite Y) e) ∙ n))
  width-floor l n (inr F) = rw (rising x y (mag-finite X) (mag-finite Y) l n) at F

width-trans : {x y z : Float} → Small x → Small y → Small z → le x y ≡ true → le y z ≡ true → Width x y → Width y z → Width x z
width-trans {x} {y} {z} X Y Z h k = by
  where
    far : (le (abs (y ⊖ x)) (abs (z ⊖ x)) ≡ true) × (le (abs (z ⊖ y)) (abs (z ⊖ x)) ≡ true)
    far = apart x y z (mag-finite X) (mag-finite Y) (mag-finite Z) h k

    by : Width x y → Width y z → Width x z
    by (inr F) q = inr (wider X Z F far.0)
    by (inl e) (inr F) = inr (wider X Z F far.1)
    by (inl e) (inl f) = inl (eq_trans x y z e f)

module _ (a : Axis) (h : refusal_of_knots a ≡ 0) (fits : (ends_fit a.knots && gaps_fit a.knots) ≡ true) where
  parts : (ends_fit a.knots ≡ true) × (gaps_fit a.knots ≡ true)
  parts = both _ _ fits

  knot-small : (i : ℕ) → i < length a.knots → Small (knot a i)
  unfolding ends_fit
  knot-small i l =
      let K = accepted a h in
      let ends = both _ _ parts.0 in
      mag-between (knot a i) (mag-of-le _ most-mag ends.0) (mag-of-le _ most-mag ends.1) (K.in_order 0 i (omega arith) l) (K.in_order i (length a.knots - 1) (omega arith) (omega arith))

  gap_at : (i : ℕ) → suc i < length a.knots → gap_fits (knot a i) (knot a (suc i)) ≡ true
  gap_at i l = sym (first_some gap_fits (knot a i) a.knots (suc i) l) ∙ each_at gaps-each a.knots i parts.1 (omega arith)

  next : (k : ℕ) → suc k < length a.knots → Width (knot a k) (knot a (suc k))
  next k l = neighbours (knot-small k (omega arith)) (knot-small (suc k) l) (gap_at k l)

  width-at : (i k : ℕ) → i < k → k < length a.knots → Width (knot a i) (knot a k)
  width-at i zero b l = absurd (omega arith)
  width-at i (suc k) b l =
      let K = accepted a h in
      ⊎_elim (λ e. rw e (next k l))
      (λ c. width-trans (knot-small i (omega arith)) (knot-small k (omega arith)) (knot-small (suc k) l) (K.in_order i k (omega arith) (omega arith)) (K.in_order k (suc k) (omega arith) l)
      (width-at i k c (omega arith)) (next k l))
      (eq-or-lt_of_le (le_of_suc-le-suc b))

  pub sizes-bounded : Bounded a
  sizes-bounded = record {
    gap = refl;
    small = lit≤ tt;
    room = lit≤ tt;
    knots = knot-small;
    wide = λ i k b m l n. width-floor (knot-small i (omega arith)) (knot-small k l) ((accepted a h).in_order i k (omega arith) l) n (width-at i k b l);
  }
