-- std's square root of a double is the definition's. Std takes the root to 2271 binary places, says by half a place more that it goes on, and rounds that;
-- the definition takes the whole number nearest to the root of a scaled radicand. No number of 53 digits, nor a point halfway between two, lies between these. Assumes nothing.
use Prim.Native.Nat.{compare, Ordering}
use Rattle.std.specs.Prelude.{◌≡◌, refl, Bool, true, false, not, cond, ℕ, zero, suc, ◌+◌, ◌-◌, ◌*◌, ◌/◌, ◌%◌, ◌^◌, ◌≤◌, ◌<◌, ℤ, pos, T, leb, eqb, Float}
use Rattle.std.proofs.Common.{sym, ap, subst, ◌∙◌, true≢false, mul_assoc, mul_comm, mul_right_comm, mul-le-mul_right, mul-lt-mul_of_pos_right, mul-pos, arith, pow-add, pow_pos, le-leb, ne_eqb, lt_of_le_of_lt, mul-div_cancel, leb→le, eqb-true, lt_trans, le-div_iff_mul-le, div-lt_iff_lt-mul, lit<, zero-mul}
use Rattle.std.proofs.lemmas.Bool.{false≢true}
use Rattle.std.proofs.Math.Dec.{is_le, compare_is_eq, nleb→lt}
use Rattle.std.proofs.Math.Nat.{mul-mul-mul_comm}
use Rattle.std.proofs.Math.Arith.{digits_div, digits_mod}
use Rattle.std.proofs.Math.Pow.{pow-lt}
use Rattle.std.specs.Float.{nan, inf, fin, binary64, sqrt}
use Rattle.std.specs.Float.Ieee.{of_bits, up, down, size, round, fits, root_twice, root_below}
use Rattle.std.specs.Float.Ieee.Back.{whole_unique}
use Rattle.std.specs.Float.Ieee.Bits.{of_bits-to_bits}
use Rattle.std.specs.Float.Ieee.Digits.{size-lt, size-le}
use Rattle.std.specs.Float.Ieee.Exact.{HasValue}
use Rattle.std.specs.Float.Ieee.Fits.{down_pos, round-fits}
use Rattle.std.specs.Float.Ieee.Nearest.{closest, closest_same}
use Rattle.std.specs.Float.Ieee.Order.{drop}
use Rattle.std.specs.Float.Ieee.Root.{whole_part}
use Rattle.std.specs.Float.Ieee.Scale.{grid, round_val}
use Rattle.float64.specs.Functions.{half_size, radicand, units_of, root_of_units, root}
use Rattle.float64.specs.Units.{exponent-lt, double, units-exact}
use Rattle.float64.specs.WholeRoot.{IsNearest, nearest_root, unsquare-lt}
use Rattle.float64.specs.RootLaws.{PositiveUnits, most-digits, positive-units, root_units, exact, few, many, near, half_le, root-value, root-fits}
use Rattle.float64.proofs.Patterns.{value-to_bits}

-- ---- a / 4e rounds to q where it is less than a half away

less : (a b : ℕ) → a < b → compare a b ≡ Ordering.lt
less a b h = by (compare a b) (le-leb a b (omega arith)) (ne_eqb a b (λ e. omega arith))
  where
    by : (o : Ordering) → is_le o ≡ true → compare_is_eq o ≡ false → o ≡ Ordering.lt
    by Ordering.lt h k = refl
    by Ordering.eq h k = absurd (true≢false k)
    by Ordering.gt h k = absurd (false≢true h)

more : (a b : ℕ) → b < a → compare a b ≡ Ordering.gt
more a b h = by (compare a b) (leb→le a b)
  where
    by : (o : Ordering) → (T (is_le o) → a ≤ b) → o ≡ Ordering.gt
    by Ordering.lt f = absurd (omega (arith, f tt))
    by Ordering.eq f = absurd (omega (arith, f tt))
    by Ordering.gt f = refl

from-above : (q r b : ℕ) → 2 * r < b → closest (q * b + r) b ≡ q
from-above q r b h =
    let w : (q * b + r) / b ≡ q = digits_div q (omega arith) in
    let m : (q * b + r) % b ≡ r = digits_mod q (omega arith) in
    rw (w, m, less (r * 2) b (omega arith)) refl

from-below : (q r b : ℕ) → r < b → b < 2 * r → closest (q * b + r) b ≡ suc q
from-below q r b l h =
    let w : (q * b + r) / b ≡ q = digits_div q l in
    let m : (q * b + r) % b ≡ r = digits_mod q l in
    rw (w, m, more (r * 2) b (omega arith)) refl

nearby : (a q e : ℕ) → a < 2 * ((2 * q + 1) * e) → ((k : ℕ) → q ≡ suc k → 2 * ((2 * k + 1) * e) < a) → closest a (4 * e) ≡ q
nearby a q e h f = go (leb (q * (4 * e)) a) q refl (leb→le (q * (4 * e)) a) (nleb→lt (q * (4 * e)) a)
  where
    go : (t : Bool) (c : ℕ) → q ≡ c → (T t → q * (4 * e) ≤ a) → (T (not t) → a < q * (4 * e)) → closest a (4 * e) ≡ q
    go true c z l g =
        let is : a ≡ q * (4 * e) + (a - q * (4 * e)) = omega (arith, l tt) in
        rw is (from-above q (a - q * (4 * e)) (4 * e) (omega (arith, l tt)))
    go false zero z l g = absurd (omega (arith, g tt, ap (λ (x : ℕ). x * (4 * e)) z))
    go false (suc k) z l g =
        let r = a - k * (4 * e) in
        let top : a < k * (4 * e) + 4 * e = omega (arith, g tt, ap (λ (x : ℕ). x * (4 * e)) z) in
        let is : a ≡ k * (4 * e) + r = omega (arith, f k z) in
        ap (λ (x : ℕ). closest x (4 * e)) is ∙ from-below k r (4 * e) (omega arith) (omega (arith, f k z)) ∙ sym z

-- ---- twice a root, with one more where it goes on

abbrev twice : ℕ → ℕ → ℕ
twice r n = 2 * r + cond (eqb (r * r) n) 0 1

module _ (r n : ℕ) (is : (r * r ≤ n) × (n < (r + 1) * (r + 1))) (m : ℕ) where
  beyond : m * m < n → 2 * m < twice r n
  beyond h = by (eqb (r * r) n) (eqb-true (r * r) n)
    where
      by : (t : Bool) → (t ≡ true → r * r ≡ n) → 2 * m < 2 * r + cond t 0 1
      by true e = let l : m < r = unsquare-lt (omega (arith, e refl)) in omega arith
      by false e = let l : m < r + 1 = unsquare-lt (lt_trans h is.1) in omega arith

  within : n < m * m → twice r n < 2 * m
  within h = by (eqb (r * r) n)
    where
      l : r < m
      l = unsquare-lt (lt_of_le_of_lt is.0 h)

      by : (t : Bool) → 2 * r + cond t 0 1 < 2 * m
      by true = omega (arith, l)
      by false = omega (arith, l)

-- a / 4e has 53 digits before the point, and rounds to q
record Rounds (q e a : ℕ) : Type 0 where
  digits : closest a (4 * e) ≡ q
  least : 2 ^ 54 * e ≤ a
  most : a < 2 ^ 55 * e

-- R has the nearest root q, of 53 digits, and r is the root of 4 * R * (e * e) without its fraction
module _ {q R : ℕ} (near : IsNearest q R) (many : 2 ^ 104 ≤ R) (few : R < 2 ^ 106) (e r n : ℕ) (pos : 0 < e) (n-is : n ≡ 4 * R * (e * e)) (is : (r * r ≤ n) × (n < (r + 1) * (r + 1))) where
  squared : (c : ℕ) → c * e * (c * e) ≡ c * c * (e * e)
  squared c = mul-mul-mul_comm c e c e

  low : (c : ℕ) → c * c < 4 * R → 2 * (c * e) < twice r n
  low c h = beyond r n is (c * e) (rw (squared c, n-is) (mul-lt-mul_of_pos_right h (mul-pos pos pos)))

  high : (c : ℕ) → 4 * R < c * c → twice r n < 2 * (c * e)
  high c h = within r n is (c * e) (rw (squared c, n-is) (mul-lt-mul_of_pos_right h (mul-pos pos pos)))

  rounds : Rounds q e (twice r n)
  rounds =
      let l : 2 ^ 53 * e < r + 1 = unsquare-lt (lt_of_le_of_lt (rw (squared (2 ^ 53), n-is) (mul-le-mul_right {m = 2 ^ 53 * 2 ^ 53} (e * e) (omega arith))) is.1) in
      record {
        digits = nearby (twice r n) q e (high (2 * q + 1) near.above) (λ k z. low (2 * k + 1) (near.below k z));
        least = omega arith;
        most = omega (arith, high (2 ^ 54) (omega arith));
      }

-- ---- of n units

powers : (i j k l m : ℕ) → i + j + k ≡ l + m → 2 ^ i * 2 ^ j * 2 ^ k ≡ 2 ^ l * 2 ^ m
powers i j k l m e = ap (λ (x : ℕ). x * 2 ^ k) (sym (pow-add 2 i j)) ∙ sym (pow-add 2 (i + j) k) ∙ ap (λ (x : ℕ). 2 ^ x) e ∙ pow-add 2 l m

size_is : (w j : ℕ) → 2 ^ j ≤ w → w < 2 ^ suc j → size w ≡ suc j
size_is w j l m = omega (arith, size-le w (suc j) m, exponent-lt j (size w) (lt_of_le_of_lt l (size-lt w)))

-- a quarter of the root's last digit, in units of 2 ^ -2272
abbrev quarter : ℕ → ℕ
quarter n = 2 ^ (half_size n + 1680)

module _ (n : ℕ) (p : PositiveUnits n) where
  scaled : n * 2 ^ 3468 ≡ 4 * radicand n * (quarter n * quarter n)
  scaled =
      let h = half_size n in
      let i : 2 * h + 3362 ≡ 2 + (h + 1680 + (h + 1680)) = omega arith in
      sym (mul_assoc n (2 ^ 106) (2 ^ 3362))
      ∙ ap (λ (x : ℕ). x * 2 ^ 3362) (sym (exact n p))
      ∙ mul_assoc (radicand n) (2 ^ (2 * h)) (2 ^ 3362)
      ∙ ap (λ (x : ℕ). radicand n * x) (sym (pow-add 2 (2 * h) 3362) ∙ ap (λ (k : ℕ). 2 ^ k) i ∙ pow-add 2 2 (h + 1680 + (h + 1680)) ∙ ap (λ (x : ℕ). 4 * x) (pow-add 2 (h + 1680) (h + 1680)))
      ∙ sym (mul_assoc (radicand n) 4 (quarter n * quarter n))
      ∙ ap (λ (x : ℕ). x * (quarter n * quarter n)) (mul_comm (radicand n) 4)

  under : root_units n < 2 ^ 2098
  under =
      let h = half_size n in
      lt_of_le_of_lt (mul-le-mul_right (2 ^ (h + 484)) (most-digits n p)) (subst (λ (x : ℕ). x < 2 ^ 2098) (pow-add 2 53 (h + 484)) (pow-lt {j = 2098} (omega (arith, half_le n p))))

  module _ (a : ℕ) (d : Rounds (nearest_root (radicand n)) (quarter n) a) where
    dropped : drop 53 (a * 2 ^ 1074) (2 ^ 2272) ≡ half_size n + 484
    dropped =
        let h = half_size n in
        let low = (le-div_iff_mul-le (pow_pos 2272)).1 (subst (λ (x : ℕ). x ≤ a * 2 ^ 1074) (powers 54 (h + 1680) 1074 (h + 536) 2272 (omega arith)) (mul-le-mul_right (2 ^ 1074) d.least)) in
        let high = (div-lt_iff_lt-mul (pow_pos 2272)).1 (subst (λ (x : ℕ). a * 2 ^ 1074 < x) (powers 55 (h + 1680) 1074 (suc (h + 536)) 2272 (omega arith)) (mul-lt-mul_of_pos_right d.most (pow_pos 1074))) in
        omega (arith, size_is (a * 2 ^ 1074 / 2 ^ 2272) (h + 536) low high)

    same : a * 2 ^ 1074 * (4 * quarter n) ≡ a * (2 ^ 2272 * 2 ^ (half_size n + 484))
    same =
        let h = half_size n in
        mul_assoc a (2 ^ 1074) (4 * quarter n) ∙ ap (λ (x : ℕ). a * x) (sym (mul_assoc (2 ^ 1074) 4 (quarter n)) ∙ powers 1074 2 (h + 1680) 2272 (h + 484) (omega arith))

    grid_is : grid binary64 a (2 ^ 2272) ≡ root_units n
    grid_is =
        let h = half_size n in
        ap (λ (k : ℕ). closest (a * 2 ^ 1074) (2 ^ 2272 * 2 ^ k) * 2 ^ k) dropped
        ∙ ap (λ (x : ℕ). x * 2 ^ (h + 484)) (closest_same (a * 2 ^ 1074) (2 ^ 2272 * 2 ^ (h + 484)) a (4 * quarter n) (mul-pos (pow_pos 2272) (pow_pos (h + 484))) (mul-pos (lit< tt) (pow_pos (h + 1680))) same ∙ d.digits)

    value : HasValue (round binary64 false a (2 ^ 2272)) false (root_units n) (2 ^ 1074)
    value = subst (λ (x : ℕ). HasValue (round binary64 false a (2 ^ 2272)) false x (2 ^ 1074)) grid_is (round_val binary64 a (2 ^ 2272) (rw grid_is under))

  rounded : HasValue (round binary64 false (root_twice (n * 2 ^ 3468)) (2 ^ 2272)) false (root_units n) (2 ^ 1074)
  unfolding root_twice
  rounded =
      let t = n * 2 ^ 3468 in
      let r = root_below (size t) t in
      value (twice r t) (rounds (near n p) (many n p) (few n p) (quarter n) r t (pow_pos (half_size n + 1680)) scaled (whole_part t))

one-form : (x y : Float) (s : Bool) (n : ℕ) → T (fits binary64 x) → T (fits binary64 y) → HasValue x s n (2 ^ 1074) → HasValue y s n (2 ^ 1074) → x ≡ y
one-form x y s n f g v w = sym (of_bits-to_bits binary64 x f) ∙ ap (of_bits binary64) (value-to_bits x s n v ∙ sym (value-to_bits y s n w)) ∙ of_bits-to_bits binary64 y g

in-units : (m : ℕ) (e : ℤ) → T (fits binary64 (fin false m e)) → m * up e * 2 ^ 4542 / down e ≡ units_of m e * 2 ^ 3468
in-units m e f =
    let k : m * up e * 2 ^ 4542 ≡ units_of m e * 2 ^ 3468 * down e =
    sym (mul_assoc (m * up e) (2 ^ 1074) (2 ^ 3468)) ∙ ap (λ (x : ℕ). x * 2 ^ 3468) (units-exact (double false m e f)) ∙ mul_right_comm (units_of m e) (down e) (2 ^ 3468) in
    ap (λ (x : ℕ). x / down e) k ∙ mul-div_cancel (units_of m e * 2 ^ 3468) (down_pos e)

pub root_is : (x : Float) → T (fits binary64 x) → sqrt binary64 x ≡ root x
unfolding sqrt root fits
root_is nan f = refl
root_is (inf true) f = refl
root_is (inf false) f = refl
root_is (fin s zero e) f = whole_unique binary64 (fin s zero (pos 0)) (fin s zero e) s 0 tt f (refl, refl) (refl, simp zero-mul)
root_is (fin true (suc m) e) f = refl
root_is (fin false (suc m) e) f =
    let n = units_of (suc m) e in
    let p = positive-units m e f in
    ap (λ (x : ℕ). round binary64 false (root_twice x) (2 ^ 2272)) (in-units (suc m) e f)
    ∙ one-form _ (root_of_units n) false (root_units n) (round-fits binary64 false (root_twice (n * 2 ^ 3468)) (2 ^ 2272)) (root-fits n p) (rounded n p) (root-value n p)
