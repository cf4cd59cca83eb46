-- `round_away` is the nearest whole number, a half away from zero, for every double, and leaves one as it is. Assumes nothing.
use Rattle.std.specs.Prelude.{◌≡◌, refl, Bool, ℕ, suc, ◌+◌, ◌*◌, ◌/◌, ◌^◌, ◌≤◌, ◌<◌, ℤ, pos, negsuc, T, Float}
use Rattle.std.proofs.Common.{sym, ap, ◌∙◌, subst, mul-one, arith, lit<, pow_pos}
use Rattle.std.specs.Float.{nan, inf, fin, binary64}
use Rattle.std.specs.Float.Ieee.{up, down, round, fits}
use Rattle.std.specs.Float.Ieee.Fits.{down_pos, nan-fits, inf-fits, round-fits}
use Rattle.std.specs.Float.Ieee.Exact.{HasValue, round_exact}
use Rattle.std.specs.Float.Ieee.Back.{round_whole, whole_unique}
use Rattle.float64.specs.Functions.{round_away}
use Rattle.float64.specs.Units.{Double, double, units-counted}

-- y is the whole number nearest to x = ±m * 2 ^ e, a half away from zero
pub record NearestWhole (s : Bool) (m : ℕ) (e : ℤ) (y : Float) : Type 0 where
  pub w : ℕ
  -- y is w exactly, with the sign s, that of a zero too
  pub value : HasValue y s w 1
  -- w - 1/2 ≤ |x|
  pub above : 2 * w * down e ≤ m * up e * 2 + down e
  -- |x| < w + 1/2
  pub below : m * up e * 2 + down e < (2 * w + 2) * down e
  -- and y is a double
  pub in-format : T (fits binary64 y)

-- a / d to the nearest whole number, a half up
abbrev pub nearest_whole : ℕ → ℕ → ℕ
nearest_whole a d = (a * 2 + d) / (2 * d)

pub whole-itself : (q : ℕ) → nearest_whole q 1 ≡ q
whole-itself q = omega arith

nearest-le : (m d : ℕ) → m < 2 ^ 53 → 0 < d → nearest_whole m d ≤ 2 ^ 53
nearest-le m d h p = grind arith

-- a number with no digits below the point stays, and any other is at most 2 ^ 53: a double holds both
exact : (s : Bool) (m : ℕ) (e : ℤ) → Double m e → let w = nearest_whole (m * up e) (down e) in HasValue (round binary64 s w 1) s w 1
exact s m (pos a) d =
    subst (λ (w : ℕ). HasValue (round binary64 s w 1) s w 1) (sym (whole-itself (m * 2 ^ a)))
    (round_exact binary64 s (m * 2 ^ a) 1 m d.shift (lit< tt) d.short d.under (units-counted d))
exact s m (negsuc a) d =
    let b = 2 ^ suc a in
    round_whole binary64 s (nearest_whole (m * 1) b) (subst (λ (x : ℕ). nearest_whole x b ≤ 2 ^ 53) (sym (mul-one m)) (nearest-le m b d.short (pow_pos (suc a))))

pub round-away-value : (s : Bool) (m : ℕ) (e : ℤ) → T (fits binary64 (fin s m e)) → HasValue (round_away (fin s m e)) s (nearest_whole (m * up e) (down e)) 1
unfolding round_away
round-away-value s m e f = exact s m e (double s m e f)

pub round-away-fits : (x : Float) → T (fits binary64 (round_away x))
unfolding round_away
round-away-fits nan = nan-fits binary64
round-away-fits (inf s) = inf-fits binary64 s
round-away-fits (fin s m e) = round-fits binary64 s (nearest_whole (m * up e) (down e)) 1

-- a / 2d is at least its whole part, and less than one above it
cut_low : (a d : ℕ) → 2 * (a / (2 * d)) * d ≤ a
cut_low a d = omega arith

cut_high : (a d : ℕ) → 0 < d → a < (2 * (a / (2 * d)) + 2) * d
cut_high a d h = omega arith

pub round-away-nearest : (s : Bool) (m : ℕ) (e : ℤ) → T (fits binary64 (fin s m e)) → NearestWhole s m e (round_away (fin s m e))
round-away-nearest s m e f = record {
  w = nearest_whole (m * up e) (down e);
  value = round-away-value s m e f;
  above = cut_low (m * up e * 2 + down e) (down e);
  below = cut_high (m * up e * 2 + down e) (down e) (down_pos e);
  in-format = round-away-fits (fin s m e);
}

pub round-away-nan : round_away nan ≡ nan
unfolding round_away
round-away-nan = refl

pub round-away-inf : (s : Bool) → round_away (inf s) ≡ inf s
unfolding round_away
round-away-inf s = refl

multiple-itself : (w d : ℕ) → 0 < d → nearest_whole (w * d) d ≡ w
multiple-itself w d h = grind arith

-- a whole number stays as it is
pub round-away-whole : (x : Float) (s : Bool) (w : ℕ) → T (fits binary64 x) → HasValue x s w 1 → round_away x ≡ x
round-away-whole (fin t m e) s w f h =
    let same = ap (λ (a : ℕ). nearest_whole a (down e)) (sym (mul-one (m * up e)) ∙ h.1) ∙ multiple-itself w (down e) (down_pos e) in
    whole_unique binary64 (round_away (fin t m e)) (fin t m e) t w (round-away-fits (fin t m e)) f
    (subst (λ (k : ℕ). HasValue (round_away (fin t m e)) t k 1) same (round-away-value t m e f))
    (refl, h.1)
round-away-whole nan s w f h = elim h [ ]
round-away-whole (inf _) s w f h = elim h [ ]

pub round-away-twice : (x : Float) → T (fits binary64 x) → round_away (round_away x) ≡ round_away x
round-away-twice nan f = ap round_away round-away-nan
round-away-twice (inf s) f = ap round_away (round-away-inf s)
round-away-twice (fin s m e) f =
    round-away-whole (round_away (fin s m e)) s (nearest_whole (m * up e) (down e)) (round-away-fits (fin s m e)) (round-away-value s m e f)
