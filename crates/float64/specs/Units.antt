-- A finite double's size as a whole number of smallest doubles, 2 ^ -1074. Assumes nothing.
use Rattle.std.specs.Prelude.{◌≡◌, refl, ℕ, zero, suc, ◌+◌, ◌-◌, ◌*◌, ◌/◌, ◌%◌, ◌^◌, ◌≤◌, ◌<◌, Bool, ◌&&◌, ℤ, pos, negsuc, T, eqb, leb, ltb, Float}
use Rattle.std.proofs.Common.{sym, ap, subst, ◌∙◌, mul-one, one-mul, zero-mul, mul_assoc, mul_comm, mul_right_comm, mul-div_cancel, mul-lt-mul_of_pos_right, lt_of_mul-lt-mul_right, lt_of_not-le, lt_of_lt_of_le, lt_irrefl, arith, pow-add, pow_pos, pow_mono, eqb→eq, leb→le, ltb→lt}
use Rattle.std.proofs.Math.Nat.{lt-suc_self, mul-sub}
use Rattle.std.proofs.Math.Pow.{pow-lt}
use Rattle.std.specs.Float.{nan, inf, fin, binary64}
use Rattle.std.specs.Float.Ieee.{up, down, fits}
use Rattle.std.specs.Float.Ieee.Exact.{HasValue}
use Rattle.std.specs.Float.Ieee.Fits.{and_l, and_r, down_pos}
use Rattle.float64.specs.Functions.{units_of}

-- 0 for a NaN and an infinity
abbrev pub units : Float → ℕ
units nan = 0
units (inf s) = 0
units (fin s m e) = units_of m e

-- what the format says of a finite double ±m * 2 ^ e: it has at most 53 digits, and is m * 2 ^ shift units
pub record Double (m : ℕ) (e : ℤ) : Type 0 where
  pub shift : ℕ
  pub short : m < 2 ^ 53
  pub scaled : up e * 2 ^ 1074 ≡ 2 ^ shift * down e
  pub under : m * 2 ^ shift < 2 ^ 2098

pub sub-mul : (m n k : ℕ) → (m - n) * k ≡ m * k - n * k
sub-mul m n k = mul_comm (m - n) k ∙ mul-sub k m n ∙ rw (mul_comm k m, mul_comm k n)

pub exponent-lt : (i p : ℕ) → 2 ^ i < 2 ^ p → i < p
exponent-lt i p h = lt_of_not-le (λ (g : p ≤ i). lt_irrefl (2 ^ i) (lt_of_lt_of_le h (pow_mono g)))

place : (e : ℤ) → down e ≤ 2 ^ 1074 → (j : ℕ) × (up e * 2 ^ 1074 ≡ 2 ^ j * down e)
place (pos a) h = (a + 1074, sym (pow-add 2 a 1074) ∙ sym (mul-one (2 ^ (a + 1074))))
place (negsuc a) h =
    let k : suc a ≤ 1074 = exponent-lt a 1074 (lt_of_lt_of_le (pow-lt (lt-suc_self a)) h) in
    let q : 1074 - suc a + suc a ≡ 1074 = omega arith in
    (1074 - suc a, one-mul (2 ^ 1074) ∙ ap (λ (i : ℕ). 2 ^ i) (sym q) ∙ pow-add 2 (1074 - suc a) (suc a))

-- a number of m * u / d units, where u / d is z of them
counted : (m u d z : ℕ) → u * 2 ^ 1074 ≡ z * d → m * u * 2 ^ 1074 ≡ m * z * d
counted m u d z h = mul_assoc m u (2 ^ 1074) ∙ ap (λ (x : ℕ). m * x) h ∙ sym (mul_assoc m z d)

bounded : (m u d z : ℕ) → u * 2 ^ 1074 ≡ z * d → m * u < 2 ^ 1024 * d → m * z < 2 ^ 2098
bounded m u d z h l =
    lt_of_mul-lt-mul_right d
    (subst (λ (x : ℕ). x < 2 ^ 2098 * d) (counted m u d z h)
    (subst (λ (x : ℕ). m * u * 2 ^ 1074 < x) (mul_right_comm (2 ^ 1024) d (2 ^ 1074)) (mul-lt-mul_of_pos_right l (pow_pos 1074))))

zero-place : (e : ℤ) → up e * down e ≡ 1 → down e ≤ 2 ^ 1074
zero-place e h = grind arith

pub double : (s : Bool) (m : ℕ) (e : ℤ) → T (fits binary64 (fin s m e)) → Double m e
unfolding fits
double s zero e t =
    let (j, h) = place e (zero-place e (eqb→eq (up e * down e) 1 t)) in
    record { shift = j; short = pow_pos 53; scaled = h; under = subst (λ (x : ℕ). x < 2 ^ 2098) (sym (zero-mul (2 ^ j))) (pow_pos 2098) }
double s (suc m) e t =
    let a : Bool = eqb (suc m % 2) 1 in
    let b : Bool = ltb (suc m) (2 ^ 53) in
    let c : Bool = leb (down e) (2 ^ 1074) in
    let d : Bool = ltb (suc m * up e) (2 ^ 1024 * down e) in
    let (j, h) = place e (leb→le (down e) (2 ^ 1074) (and_r (a && b) c (and_l (a && b && c) d t))) in
    record {
      shift = j;
      short = ltb→lt (suc m) (2 ^ 53) (and_r a b (and_l (a && b) c (and_l (a && b && c) d t)));
      scaled = h;
      under = bounded (suc m) (up e) (down e) (2 ^ j) h (ltb→lt (suc m * up e) (2 ^ 1024 * down e) (and_r (a && b && c) d t));
    }

module _ {m : ℕ} {e : ℤ} (d : Double m e) where
  pub units-counted : m * up e * 2 ^ 1074 ≡ m * 2 ^ d.shift * down e
  units-counted = counted m (up e) (down e) (2 ^ d.shift) d.scaled

  pub units-shifted : units_of m e ≡ m * 2 ^ d.shift
  units-shifted = ap (λ (x : ℕ). x / down e) units-counted ∙ mul-div_cancel (m * 2 ^ d.shift) (down_pos e)

  pub units-exact : m * up e * 2 ^ 1074 ≡ units_of m e * down e
  units-exact = units-counted ∙ ap (λ (x : ℕ). x * down e) (sym units-shifted)

  pub units_under : units_of m e < 2 ^ 2098
  units_under = subst (λ (x : ℕ). x < 2 ^ 2098) (sym units-shifted) d.under

pub own-units : (s : Bool) (m : ℕ) (e : ℤ) → T (fits binary64 (fin s m e)) → HasValue (fin s m e) s (units_of m e) (2 ^ 1074)
own-units s m e t = (refl, units-exact (double s m e t))

pub units-of-value : (x : Float) (s : Bool) (a : ℕ) → HasValue x s a (2 ^ 1074) → units x ≡ a
units-of-value nan s a v = absurd v
units-of-value (inf t) s a v = absurd v
units-of-value (fin t m e) s a v = ap (λ (x : ℕ). x / down e) v.1 ∙ mul-div_cancel a (down_pos e)
