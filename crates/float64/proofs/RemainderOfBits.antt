-- The truncated remainder by the bits: of two patterns without their signs, and then of two doubles. Assumes nothing.
use Rattle.std.specs.Prelude.{◌≡◌, refl, ◌⊎◌, Bool, true, false, not, cond, ℕ, zero, suc, ◌+◌, ◌-◌, ◌*◌, ◌/◌, ◌%◌, ◌^◌, ◌≤◌, ◌<◌, ℤ, pos, T, Float}
use Rattle.std.proofs.Common.{sym, ap, ap₂, ◌∙◌, subst, true≢false, inl, inr, le_of_lt, lt_of_lt_of_le, lt_of_le_of_lt, le_trans, eq-zero-or-pos, eq-or-lt_of_le, zero-lt-suc, mul_assoc, mul_right_comm, mul-pos, mul-le-mul_right, mul-lt-mul_of_pos_right, mod-eq_of_lt, arith, lit<, lit≤, pow-add, pow_pos, pow_mono, shl_lt, suc-mul, ne_eqb}
use Rattle.std.proofs.lemmas.Bool.{false≢true}
use Rattle.std.proofs.lemmas.Nat.{mul-mod_first, leading_top}
use Rattle.std.specs.Int.Count.{count_leading_zeros}
use Rattle.std.proofs.Math.Nat.{eq_of_mul-eq-mul_right}
use Rattle.std.proofs.Math.Pow.{shl_exact}
use Rattle.std.specs.Float.{nan, inf, fin, binary64}
use Rattle.std.specs.Float.Ieee.{up, down, rem, eq, fits, is_nan, nan_bits, to_bits, of_bits}
use Rattle.std.specs.Float.Ieee.Bits.{of_bits-to_bits, to_bits-lt, nan_bits_is}
use Rattle.std.specs.Float.Ieee.Exact.{HasValue}
use Rattle.std.proofs.lemmas.Float.{T_from_false}
use Rattle.std.specs.Float.Ieee.Fits.{up_pos, down_pos, rem-fits}
use Rattle.float64.specs.Functions.{is_finite, units_of}
use Rattle.float64.specs.Units.{exponent-lt, double, own-units, units-shifted, units_under}
use Rattle.float64.specs.Operators.{0·}
use Rattle.float64.specs.Order.{finite→number, eq-zeros}
use Rattle.float64.specs.Patterns.{units_of_bits}
use Rattle.float64.specs.RemainderLaws.{mod-scale, raise, rem-units, rem-exact, finite-of-value}
use Rattle.float64.proofs.Patterns.{Written, above-nothing, sign-off, to_bits-sign, to_bits_inf, to_bits-written, to_bits-finite, written-to_bits, units-of-written}

-- ---- the leading zeros of a number below 2 ^ 53, of 64 places

pub record Missing (a z : ℕ) : Type 0 where
  pub enough : 11 ≤ z
  pub shift : z - 11 ≤ 52
  pub full : 2 ^ 52 ≤ a * 2 ^ (z - 11)
  pub short : a * 2 ^ (z - 11) < 2 ^ 53

pub missing_by : (a z : ℕ) → z ≡ count_leading_zeros 64 a → 0 < a → a < 2 ^ 53 → Missing a z
missing_by a z is h l =
    let t = leading_top 64 a h (omega arith) in
    let j = t.0 in
    let small : j < 53 = exponent-lt j 53 (lt_of_le_of_lt t.2 l) in
    let e : j + (z - 11) ≡ 52 = omega arith in
    let f : suc j + (z - 11) ≡ 53 = omega arith in
    record {
      enough = omega arith;
      shift = omega arith;
      full = subst (λ (x : ℕ). x ≤ a * 2 ^ (z - 11)) (sym (pow-add 2 j (z - 11)) ∙ ap (λ (i : ℕ). 2 ^ i) e) (mul-le-mul_right (2 ^ (z - 11)) t.2);
      short = subst (λ (x : ℕ). a * 2 ^ (z - 11) < x) (sym (pow-add 2 (suc j) (z - 11)) ∙ ap (λ (i : ℕ). 2 ^ i) f) (mul-lt-mul_of_pos_right t.3 (pow_pos (z - 11)));
    }

-- ---- digits with zeros after them, by a divisor

-- eleven zeros are taken up
pub turn : (r l n : ℕ) → 11 ≤ l → r * 2048 % n * 2 ^ (l - 11) % n ≡ r * 2 ^ l % n
turn r l n h =
    let q : 11 + (l - 11) ≡ l = omega arith in
    mul-mod_first (r * 2048) (2 ^ (l - 11)) n ∙ ap (λ (x : ℕ). x % n) (mul_assoc r 2048 (2 ^ (l - 11)) ∙ ap (λ (x : ℕ). r * x) (sym (pow-add 2 11 (l - 11)) ∙ ap (λ (i : ℕ). 2 ^ i) q))

-- and what is left of them at once: a u64 holds it
pub last : (r l n : ℕ) → r < 2 ^ 53 → l ≤ 11 → r * 2 ^ l % 2 ^ 64 % n ≡ r * 2 ^ l % n
last r l n h k = ap (λ (x : ℕ). x % n) (shl_exact 53 l 64 h (omega arith))

-- ---- a pattern's digits, and the zeros after them

abbrev zeros_of : ℕ → ℕ
zeros_of b = b / 2 ^ 52 - 1

abbrev digits_of : ℕ → ℕ
digits_of b = b - zeros_of b * 2 ^ 52

read : (b : ℕ) → Written (digits_of b * 2 ^ zeros_of b) b
read b = record {
  c = digits_of b;
  k = zeros_of b;
  number = refl;
  pattern = omega arith;
  small = omega arith;
  leading = elim (eq-zero-or-pos (zeros_of b)) [ inl z ↦ inr z | inr p ↦ inl (omega arith) ];
}

counted : (b : ℕ) → units_of_bits b ≡ digits_of b * 2 ^ zeros_of b
counted b = units-of-written (read b)

-- patterns are in the order of their numbers
smaller : (a b : ℕ) → a < b → units_of_bits a < units_of_bits b
smaller a b h = rw (counted a, counted b) (go (eq-or-lt_of_le (omega arith)))
  where
    go : (zeros_of a ≡ zeros_of b) ⊎ (zeros_of a < zeros_of b) → digits_of a * 2 ^ zeros_of a < digits_of b * 2 ^ zeros_of b
    go (inl e) = subst (λ (k : ℕ). digits_of a * 2 ^ zeros_of a < digits_of b * 2 ^ k) e (mul-lt-mul_of_pos_right (omega arith) (pow_pos (zeros_of a)))
    go (inr l) =
        lt_of_lt_of_le (shl_lt 53 (zeros_of a) (omega arith))
        (le_trans (pow_mono (omega arith)) (subst (λ (x : ℕ). x ≤ digits_of b * 2 ^ zeros_of b) (sym (pow-add 2 52 (zeros_of b))) (mul-le-mul_right (2 ^ zeros_of b) (omega arith))))

pub itself : (a b : ℕ) → a < b → units_of_bits a ≡ units_of_bits a % units_of_bits b
itself a b h = sym (mod-eq_of_lt (smaller a b h))

pub by_digits : (a b k l : ℕ) → k ≡ zeros_of a → l ≡ zeros_of b → 0 < b → b ≤ a → (a - k * 2 ^ 52) * 2 ^ (k - l) % (b - l * 2 ^ 52) * 2 ^ l ≡ units_of_bits a % units_of_bits b
by_digits a b k l p q h g =
    rw (p, q)
    (sym (ap₂ (λ (x y : ℕ). x % y) (counted a ∙ raise (digits_of a) (zeros_of a) (zeros_of b) (omega arith)) (counted b)
    ∙ mod-scale (digits_of a * 2 ^ (zeros_of a - zeros_of b)) (digits_of b) (2 ^ zeros_of b) (omega arith) (pow_pos (zeros_of b))))

-- ---- the pattern of digits with zeros after them

pub none : (d z : ℕ) → d ≡ 0 → units_of_bits 0 ≡ d * 2 ^ z
unfolding units_of_bits
none d z e = grind arith

-- k of the zeros are taken for digits: so many that the leading digit is there, or all
pub placed : (d z k b : ℕ) → k ≤ z → d * 2 ^ k < 2 ^ 53 → (2 ^ 52 ≤ d * 2 ^ k) ⊎ (z - k ≡ 0) → b ≡ (z - k) * 2 ^ 52 + d * 2 ^ k → units_of_bits b ≡ d * 2 ^ z
placed d z k b h s l e =
    let q : k + (z - k) ≡ z = omega arith in
    units-of-written (record {
      c = d * 2 ^ k;
      k = z - k;
      number = ap (λ (i : ℕ). d * 2 ^ i) (sym q) ∙ ap (λ (x : ℕ). d * x) (pow-add 2 k (z - k)) ∙ sym (mul_assoc d (2 ^ k) (2 ^ (z - k)));
      pattern = e;
      small = s;
      leading = l;
    })

-- ---- the tests

pub not_finite : (x y : Float) → is_finite x ≡ false → of_bits binary64 0x7ff8_0000_0000_0000 ≡ rem binary64 x y
unfolding is_finite rem of_bits
not_finite nan y h = refl
not_finite (inf s) y h = refl
not_finite (fin s m e) y h = absurd (true≢false h)

pub by_nan : (x y : Float) → is_nan y ≡ true → y ≡ rem binary64 x y
unfolding rem is_nan
by_nan nan nan h = refl
by_nan (inf s) nan h = refl
by_nan (fin s m e) nan h = refl
by_nan x (inf t) h = absurd (false≢true h)
by_nan x (fin t n d) h = absurd (false≢true h)

not-zero : (t : Bool) (n : ℕ) (d : ℤ) → eq (fin t (suc n) d) 0· ≡ false
unfolding eq of_bits
not-zero t n d = simp (ne_eqb (suc n * up d * 1) (0 * 1 * down d) (λ z. omega (arith, z, suc-mul n (up d), up_pos d)))

pub by_zero : (x y : Float) → eq y 0· ≡ true → of_bits binary64 0x7ff8_0000_0000_0000 ≡ rem binary64 x y
unfolding rem eq of_bits
by_zero nan y h = refl
by_zero (inf s) y h = refl
by_zero (fin s m e) nan h = refl
by_zero (fin s m e) (inf t) h = absurd (false≢true h)
by_zero (fin s m e) (fin t zero d) h = refl
by_zero (fin s m e) (fin t (suc n) d) h = absurd (true≢false (sym h ∙ not-zero t n d))

-- ---- two doubles

-- from one fraction to another of the same size
same_size : (x : Float) (s : Bool) (a c b l : ℕ) → 0 < c → a * l ≡ b * c → HasValue x s a c → HasValue x s b l
same_size nan s a c b l C h v = v
same_size (inf t) s a c b l C h v = v
same_size (fin t m e) s a c b l C h v =
    (v.0, eq_of_mul-eq-mul_right c C (m * up e * l) (b * down e) (mul_right_comm (m * up e) l c ∙ ap (λ (x : ℕ). x * l) v.1 ∙ mul_right_comm a (down e) l ∙ ap (λ (x : ℕ). x * down e) h ∙ mul_right_comm b c (down e)))

abbrev plain : Float → ℕ
plain x = to_bits binary64 x % 2 ^ 63

-- a double's pattern without its sign, and its number
module _ (s : Bool) (m : ℕ) (e : ℤ) (f : T (fits binary64 (fin s m e))) where
  plain-is : plain (fin s m e) ≡ to_bits binary64 (fin false m e)
  plain-is = ap (λ (b : ℕ). b % 2 ^ 63) (to_bits-sign s m e) ∙ sign-off s (to_bits binary64 (fin false m e)) (le_of_lt (to_bits-finite s m e f))

  plain-units : units_of_bits (plain (fin s m e)) ≡ units_of m e
  plain-units = ap units_of_bits plain-is ∙ units-of-written (to_bits-written s m e f)

infinite : units_of_bits (2047 * 2 ^ 52) ≡ 2 ^ 2098
unfolding units_of_bits
infinite = refl

-- What the patterns are without their signs, and what the remainder is by them. An infinity's stands for 2 ^ 2098 units, more than any double has.
pub record Divided (x y : Float) : Type 0 where
  pub s : Bool
  pub bits : to_bits binary64 x ≡ cond s (2 ^ 63) 0 + plain x
  pub finite : plain x < 2047 * 2 ^ 52
  pub above : 0 < plain y
  pub most : plain y ≤ 2047 * 2 ^ 52
  pub value : HasValue (rem binary64 x y) s (units_of_bits (plain x) % units_of_bits (plain y)) (2 ^ 1074)

module _ (s : Bool) (m : ℕ) (e : ℤ) (f : T (fits binary64 (fin s m e))) where
  with-sign : to_bits binary64 (fin s m e) ≡ cond s (2 ^ 63) 0 + plain (fin s m e)
  with-sign = to_bits-sign s m e ∙ ap (λ (b : ℕ). cond s (2 ^ 63) 0 + b) (sym (plain-is s m e f))

  below-infinity : plain (fin s m e) < 2047 * 2 ^ 52
  below-infinity = subst (λ (b : ℕ). b < 2047 * 2 ^ 52) (sym (plain-is s m e f)) (to_bits-finite s m e f)

  by-infinity : (t : Bool) → Divided (fin s m e) (inf t)
  unfolding rem
  by-infinity t =
      let B : plain (inf t) ≡ 2047 * 2 ^ 52 = ap (λ (b : ℕ). b % 2 ^ 63) (to_bits_inf t) ∙ sign-off t (2047 * 2 ^ 52) (lit≤ tt) in
      let n : units_of_bits (plain (fin s m e)) % units_of_bits (plain (inf t)) ≡ units_of m e =
      ap₂ (λ (x y : ℕ). x % y) (plain-units s m e f) (ap units_of_bits B ∙ infinite) ∙ mod-eq_of_lt (units_under (double s m e f)) in
      record {
        s = s;
        bits = with-sign;
        finite = below-infinity;
        above = subst (λ (b : ℕ). 0 < b) (sym B) (lit< tt);
        most = subst (λ (b : ℕ). b ≤ 2047 * 2 ^ 52) (sym B) (lit≤ tt);
        value = subst (λ (x : ℕ). HasValue (fin s m e) s x (2 ^ 1074)) (sym n) (own-units s m e f);
      }

  by-double : (t : Bool) (n : ℕ) (d : ℤ) → T (fits binary64 (fin t (suc n) d)) → Divided (fin s m e) (fin t (suc n) d)
  by-double t n d g =
      let X = double s m e f in
      let Y = double t (suc n) d g in
      let N : 0 < suc n = zero-lt-suc n in
      let x = units_of_bits (plain (fin s m e)) in
      let y = units_of_bits (plain (fin t (suc n) d)) in
      let r = rem binary64 (fin s m e) (fin t (suc n) d) in
      let a = m * up e * down d % (suc n * up d * down e) in
      let c = down e * down d in
      let u : x % y ≡ m * 2 ^ X.shift % (suc n * 2 ^ Y.shift) = ap₂ (λ (z w : ℕ). z % w) (plain-units s m e f ∙ units-shifted X) (plain-units t (suc n) d g ∙ units-shifted Y) in
      let h : 0 < units_of (suc n) d = subst (λ (z : ℕ). 0 < z) (sym (units-shifted Y)) (mul-pos N (pow_pos Y.shift)) in
      record {
        s = s;
        bits = with-sign;
        finite = below-infinity;
        above = subst (λ (b : ℕ). 0 < b) (sym (plain-is t (suc n) d g)) (above-nothing h (to_bits-written t (suc n) d g));
        most = le_of_lt (subst (λ (b : ℕ). b < 2047 * 2 ^ 52) (sym (plain-is t (suc n) d g)) (to_bits-finite t (suc n) d g));
        value = same_size r s a c (x % y) (2 ^ 1074) (mul-pos (down_pos e) (down_pos d)) (rem-units X Y N ∙ ap (λ (z : ℕ). z * c) (sym u)) (rem-exact s m e t (suc n) d f g N);
      }

pub divided : (x y : Float) → T (fits binary64 x) → T (fits binary64 y) → is_finite x ≡ true → is_nan y ≡ false → eq y 0· ≡ false → Divided x y
unfolding is_finite is_nan of_bits
divided nan y f g h k z = absurd (false≢true h)
divided (inf s) y f g h k z = absurd (false≢true h)
divided (fin s m e) nan f g h k z = absurd (true≢false k)
divided (fin s m e) (inf t) f g h k z = by-infinity s m e f t
divided (fin s m e) (fin t zero d) f g h k z = absurd (true≢false (sym (eq-zeros t false d (pos 0)) ∙ z))
divided (fin s m e) (fin t (suc n) d) f g h k z = by-double s m e f t n d g

-- b is the pattern of a remainder
pub record Remains (x y : Float) (b : ℕ) : Type 0 where
  pub width : b < 2 ^ 64
  pub number : T (not (nan_bits binary64 b))
  pub value : of_bits binary64 b ≡ rem binary64 x y

-- the sign's bit is taken off, and put back to the remainder's pattern
pub remains : {x y : Float} → T (fits binary64 x) → Divided x y → (r : ℕ) → units_of_bits r ≡ units_of_bits (plain x) % units_of_bits (plain y) → Remains x y (to_bits binary64 x - plain x + r)
remains {x} {y} f d r e =
    let z = rem binary64 x y in
    let held = rem-fits binary64 x y f in
    let sum : to_bits binary64 x - plain x + r ≡ to_bits binary64 z = omega (arith, d.bits, written-to_bits (subst (λ (n : ℕ). Written n r) (sym (counted r) ∙ e) (read r)) z d.s d.value) in
    let value : of_bits binary64 (to_bits binary64 x - plain x + r) ≡ z = ap (of_bits binary64) sum ∙ of_bits-to_bits binary64 z held in
    record {
      width = rw sum (to_bits-lt binary64 z held);
      number = T_from_false _ (nan_bits_is binary64 _ ∙ ap is_nan value ∙ finite→number z (finite-of-value z d.s (units_of_bits (plain x) % units_of_bits (plain y)) (2 ^ 1074) d.value));
      value = value;
    }
