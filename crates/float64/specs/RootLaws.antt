-- What IEEE 754 asks of a root: no double is nearer, and no two are as near. Over whole numbers, in units of the smallest double: the root of n units is that of
-- n * 2 ^ 1074, so a double of Y units and the root of R units lie on one side of it exactly where (Y + R) * (Y + R) and 4 * (n * 2 ^ 1074) say so.
-- `root-special` has the zeros, the infinities, NaN and what is below 0. Assumes nothing.
use Rattle.std.specs.Prelude.{◌≡◌, refl, ◌⊎◌, Bool, true, not, ℕ, zero, suc, ◌+◌, ◌-◌, ◌*◌, ◌/◌, ◌^◌, ◌≤◌, ◌<◌, ℤ, pos, T, ltb, Float}
use Rattle.std.proofs.Common.{sym, ap, subst, ◌∙◌, inl, inr, true≢false, le_trans, le_of_lt, le_of_suc-le-suc, lt_irrefl, lt_of_lt_of_le, lt_of_le_of_lt, lt_of_not-le, eq-or-lt_of_le, mul_assoc, mul-le-mul, mul-le-mul_left, mul-le-mul_right, mul-lt-mul_of_pos_right, mul-pos, lt_of_mul-lt-mul_right, le_of_mul-le-mul_right, mul_comm, mul-div_cancel, add-mul, mul-add, sub-add_cancel, pow-suc, zero-lt-suc, le-mul_of_pos_right, lt_trans, add_comm, zero-add, zero-mul, suc-mul, arith, ltb→lt, lt→ltb, nltb→le, lit<, pow-add, pow_pos, pow_mono, shl_lt, ltb-true, ltb-false, lt-ltb}
use Rattle.std.proofs.Math.Bool.{false}
use Rattle.std.proofs.lemmas.Bool.{false≢true}
use Rattle.std.proofs.Math.Nat.{mul-mul-mul_comm}
use Rattle.std.specs.Float.{nan, inf, fin}
use Rattle.std.specs.Float.Ieee.{binary64, up, down, size, round, fits, lt, le, is_nan, of_bits}
use Rattle.std.specs.Float.Ieee.Digits.{size-lt, size-le, size_reaches}
use Rattle.std.specs.Float.Ieee.Exact.{HasValue, round_exact}
use Rattle.std.specs.Float.Ieee.Fits.{round-fits, up_pos, down_pos}
use Rattle.std.specs.Float.Ieee.Bits.{is_true}
use Rattle.std.specs.Float.Ieee.Order.{le_of_values}
use Rattle.std.specs.Float.Ieee.Positive.{positive, positive_of_value, values_of_le}
use Rattle.float64.specs.Operators.{0·}
use Rattle.float64.specs.Order as Order
use Rattle.float64.specs.Order.{eq-zeros}
use Rattle.float64.specs.Nonneg.{Nonneg, infinite, finite, nonneg→number, nonneg-le, root-nonneg}
use Rattle.float64.specs.Functions.{is_finite, units_of, half_size, radicand, root_of_units, root}
use Rattle.float64.specs.Units.{units, double, units-shifted, units_under, own-units, units-of-value}
use Rattle.float64.specs.WholeRoot.{unsquare-lt, IsNearest, nearest_root, nearest-root}

-- ---- whole numbers

square-lt : {a b : ℕ} → a < b → a * a < b * b
square-lt {a} {b} h = grind arith

-- q is the nearest to the root of n, and has 53 digits since n has 105 or 106
module _ {q n : ℕ} (near : IsNearest q n) (many : 2 ^ 104 ≤ n) (few : n < 2 ^ 106) where
  pub digits-ge : 2 ^ 52 ≤ q
  digits-ge = grind arith

  pub digits_le : q ≤ 2 ^ 53
  digits_le = go q refl
    where
      go : (c : ℕ) → q ≡ c → c ≤ 2 ^ 53
      go zero e = omega arith
      go (suc k) e =
          let h : 2 * k + 1 < 2 ^ 54 = unsquare-lt (lt_of_lt_of_le (near.below k e) (omega arith)) in
          omega arith

  -- against Y, a double of at most 53 digits b with j zeros after them, where the root is q with g zeros
  module _ (g Y b j : ℕ) (is : Y ≡ b * 2 ^ j) (short : b < 2 ^ 53) where
    -- Y's digits reach below the root's, and then Y is less than any number of 53 digits there; or Y is a whole number of the root's last digits
    split : (Y < 2 ^ 52 * 2 ^ g) ⊎ ((t : ℕ) × (Y ≡ t * 2 ^ g))
    split = go (ltb j g) (ltb→lt j g) (nltb→le j g)
      where
        go : (f : Bool) → (T f → j < g) → (T (not f) → g ≤ j) → (Y < 2 ^ 52 * 2 ^ g) ⊎ ((t : ℕ) × (Y ≡ t * 2 ^ g))
        go true h k =
            let l : suc j ≤ g = h tt in
            let p : 2 ^ 53 * 2 ^ j ≤ 2 ^ 52 * 2 ^ g = omega (arith, pow-suc 2 j, mul-le-mul_left (2 ^ 52) (pow_mono l), mul-add (2 ^ 52) (2 ^ j) (2 ^ j)) in
            inl (lt_of_lt_of_le (subst (λ (x : ℕ). x < 2 ^ 53 * 2 ^ j) (sym is) (mul-lt-mul_of_pos_right short (pow_pos j))) p)
        go false h k =
            inr (b * 2 ^ (j - g), is ∙ ap (λ (x : ℕ). b * x) (ap (λ (i : ℕ). 2 ^ i) (sym (sub-add_cancel (k tt))) ∙ pow-add 2 (j - g) g) ∙ sym (mul_assoc b (2 ^ (j - g)) (2 ^ g)))

    -- twice the midpoint of c and the root, squared
    middle : (c : ℕ) → (c * 2 ^ g + q * 2 ^ g) * (c * 2 ^ g + q * 2 ^ g) ≡ (c + q) * (c + q) * (2 ^ g * 2 ^ g)
    middle c = ap (λ (x : ℕ). x * x) (sym (add-mul c q (2 ^ g))) ∙ mul-mul-mul_comm (c + q) (2 ^ g) (c + q) (2 ^ g)

    -- a whole number of the root's last digits below the root
    lower : (k : ℕ) → q ≡ suc k → Y ≤ k * 2 ^ g → (Y + q * 2 ^ g) * (Y + q * 2 ^ g) < 4 * n * (2 ^ g * 2 ^ g)
    lower k e h =
        let l : Y + q * 2 ^ g ≤ k * 2 ^ g + q * 2 ^ g = omega arith in
        let o : k + q ≡ 2 * k + 1 = omega arith in
        lt_of_le_of_lt (subst (λ (x : ℕ). (Y + q * 2 ^ g) * (Y + q * 2 ^ g) ≤ x) (middle k ∙ ap (λ (x : ℕ). x * x * (2 ^ g * 2 ^ g)) o) (mul-le-mul l l))
        (mul-lt-mul_of_pos_right (near.below k e) (mul-pos (pow_pos g) (pow_pos g)))

    -- below the least number of 53 digits the doubles are finer, and the root is not below that number
    least : q ≡ 2 ^ 52 → Y < 2 ^ 52 * 2 ^ g → (Y + q * 2 ^ g) * (Y + q * 2 ^ g) < 4 * n * (2 ^ g * 2 ^ g)
    least e h =
        let l : Y + q * 2 ^ g < q * 2 ^ g + q * 2 ^ g = omega (arith, ap (λ (x : ℕ). x * 2 ^ g) e) in
        lt_of_lt_of_le (subst (λ (x : ℕ). (Y + q * 2 ^ g) * (Y + q * 2 ^ g) < x) (middle q ∙ ap (λ (x : ℕ). (x + x) * (x + x) * (2 ^ g * 2 ^ g)) e) (square-lt l))
        (mul-le-mul_right (2 ^ g * 2 ^ g) (omega arith))

    pub below : Y < q * 2 ^ g → (Y + q * 2 ^ g) * (Y + q * 2 ^ g) < 4 * n * (2 ^ g * 2 ^ g)
    below h = go q refl split
      where
        go : (c : ℕ) → q ≡ c → (Y < 2 ^ 52 * 2 ^ g) ⊎ ((t : ℕ) × (Y ≡ t * 2 ^ g)) → (Y + q * 2 ^ g) * (Y + q * 2 ^ g) < 4 * n * (2 ^ g * 2 ^ g)
        go zero e w = absurd (omega (arith, digits-ge))
        go (suc k) e (inl f) = elim (eq-or-lt_of_le digits-ge) [
          | inl z ↦ least (sym z) f
          | inr l ↦ let p : 2 ^ 52 ≤ k = omega arith in lower k e (le_trans (le_of_lt f) (mul-le-mul_right (2 ^ g) p))
        ]
        go (suc k) e (inr (t, z)) =
            let l : t < q = lt_of_mul-lt-mul_right (2 ^ g) (subst (λ (x : ℕ). x < q * 2 ^ g) z h) in
            let p : t ≤ k = omega arith in
            lower k e (subst (λ (x : ℕ). x ≤ k * 2 ^ g) (sym z) (mul-le-mul_right (2 ^ g) p))

    pub above : q * 2 ^ g < Y → 4 * n * (2 ^ g * 2 ^ g) < (Y + q * 2 ^ g) * (Y + q * 2 ^ g)
    above h = go split
      where
        go : (Y < 2 ^ 52 * 2 ^ g) ⊎ ((t : ℕ) × (Y ≡ t * 2 ^ g)) → 4 * n * (2 ^ g * 2 ^ g) < (Y + q * 2 ^ g) * (Y + q * 2 ^ g)
        go (inl f) = absurd (omega (arith, mul-le-mul_right (2 ^ g) digits-ge))
        go (inr (t, z)) =
            let l : q < t = lt_of_mul-lt-mul_right (2 ^ g) (subst (λ (x : ℕ). q * 2 ^ g < x) z h) in
            let y : suc q * 2 ^ g ≤ Y = subst (λ (x : ℕ). suc q * 2 ^ g ≤ x) (sym z) (mul-le-mul_right (2 ^ g) l) in
            let s : suc q * 2 ^ g + q * 2 ^ g ≤ Y + q * 2 ^ g = omega arith in
            let o : suc q + q ≡ 2 * q + 1 = omega arith in
            lt_of_lt_of_le (mul-lt-mul_of_pos_right near.above (mul-pos (pow_pos g) (pow_pos g)))
            (subst (λ (x : ℕ). x ≤ (Y + q * 2 ^ g) * (Y + q * 2 ^ g)) (middle (suc q) ∙ ap (λ (x : ℕ). x * x * (2 ^ g * 2 ^ g)) o) (mul-le-mul s s))

-- ---- q with g zeros is a double, also where a carry made q 2 ^ 53

whole-digits : (q g : ℕ) → q < 2 ^ 53 → g ≤ 1534 → HasValue (round binary64 false (q * 2 ^ g) (2 ^ 1074)) false (q * 2 ^ g) (2 ^ 1074)
whole-digits q g l h = round_exact binary64 false (q * 2 ^ g) (2 ^ 1074) q g (pow_pos 1074) l (lt_of_lt_of_le (shl_lt 53 g l) (pow_mono {j = 2098} (omega arith))) refl

carried-digits : (q g : ℕ) → q ≤ 2 ^ 53 → g ≤ 1533 → HasValue (round binary64 false (q * 2 ^ g) (2 ^ 1074)) false (q * 2 ^ g) (2 ^ 1074)
carried-digits q g l h = elim (eq-or-lt_of_le l) [
  | inl e ↦
      let c : 2 ^ 52 * 2 ^ suc g ≡ q * 2 ^ g = omega (arith, pow-suc 2 g, ap (λ (x : ℕ). x * 2 ^ g) e) in
      subst (λ (x : ℕ). HasValue (round binary64 false x (2 ^ 1074)) false x (2 ^ 1074)) c (whole-digits (2 ^ 52) (suc g) (lit< tt) (omega arith))
  | inr s ↦ whole-digits q g s (omega arith)
]

-- ---- the definition, at a number of units that a double has

-- a double above 0 has n units
pub record PositiveUnits (n : ℕ) : Type 0 where
  pub c : ℕ
  pub k : ℕ
  pub is : n ≡ c * 2 ^ k
  pub short : c < 2 ^ 53
  pub above_zero : 0 < n
  pub under : n < 2 ^ 2098

-- the units of its root
abbrev pub root_units : ℕ → ℕ
root_units n = nearest_root (radicand n) * 2 ^ (half_size n + 484)

module _ (n : ℕ) (p : PositiveUnits n) where
  size-pos : 0 < size n
  size-pos = go (size n) refl
    where
      go : (z : ℕ) → size n ≡ z → 0 < z
      go zero e = absurd (omega (arith, p.above_zero, subst (λ (z : ℕ). n < 2 ^ z) e (size-lt n)))
      go (suc z) e = omega arith

  -- no digit of n is lost
  pub exact : radicand n * 2 ^ (2 * half_size n) ≡ n * 2 ^ 106
  exact =
      let h = half_size n in
      let c = p.c in
      let k = p.k in
      let few : size n ≤ 53 + k = size-le n (53 + k) (subst (λ (x : ℕ). x < 2 ^ (53 + k)) (sym p.is) (shl_lt 53 k p.short)) in
      let d = k + 106 - 2 * h in
      let e : d + 2 * h ≡ k + 106 = omega arith in
      let f : n * 2 ^ 106 ≡ c * 2 ^ d * 2 ^ (2 * h) =
      ap (λ (x : ℕ). x * 2 ^ 106) p.is
      ∙ mul_assoc c (2 ^ k) (2 ^ 106)
      ∙ ap (λ (x : ℕ). c * x) (sym (pow-add 2 k 106) ∙ ap (λ (i : ℕ). 2 ^ i) (sym e) ∙ pow-add 2 d (2 * h))
      ∙ sym (mul_assoc c (2 ^ d) (2 ^ (2 * h))) in
      ap (λ (x : ℕ). x / 2 ^ (2 * h) * 2 ^ (2 * h)) f ∙ ap (λ (x : ℕ). x * 2 ^ (2 * h)) (mul-div_cancel (c * 2 ^ d) (pow_pos (2 * h))) ∙ sym f

  pub few : radicand n < 2 ^ 106
  few =
      let h = half_size n in
      let l : n < 2 ^ (2 * h) = lt_of_lt_of_le (size-lt n) (pow_mono (omega arith)) in
      lt_of_mul-lt-mul_right (2 ^ (2 * h))
      (subst (λ (x : ℕ). x < 2 ^ 106 * 2 ^ (2 * h)) (sym exact) (subst (λ (x : ℕ). n * 2 ^ 106 < x) (mul_comm (2 ^ (2 * h)) (2 ^ 106)) (mul-lt-mul_of_pos_right l (pow_pos 106))))

  pub many : 2 ^ 104 ≤ radicand n
  many =
      let h = half_size n in
      let j = 2 * h - 2 in
      let e : 104 + 2 * h ≡ j + 106 = omega (arith, size-pos) in
      let l : 2 ^ j ≤ n = size_reaches n j (omega (arith, size-pos)) in
      le_of_mul-le-mul_right
      (subst (λ (x : ℕ). 2 ^ 104 * 2 ^ (2 * h) ≤ x) (sym exact)
      (subst (λ (x : ℕ). x ≤ n * 2 ^ 106) (sym (pow-add 2 j 106) ∙ ap (λ (i : ℕ). 2 ^ i) (sym e) ∙ pow-add 2 104 (2 * h)) (mul-le-mul_right (2 ^ 106) l)))
      (pow_pos (2 * h))

  pub near : IsNearest (nearest_root (radicand n)) (radicand n)
  near = nearest-root (radicand n) few

  pub half_le : half_size n ≤ 1049
  half_le = omega (arith, size-le n 2098 p.under)

  pub least-digits : 2 ^ 52 ≤ nearest_root (radicand n)
  least-digits = digits-ge near many few

  pub most-digits : nearest_root (radicand n) ≤ 2 ^ 53
  most-digits = digits_le near many few

  pub root-value : HasValue (root_of_units n) false (root_units n) (2 ^ 1074)
  unfolding root_of_units
  root-value = carried-digits (nearest_root (radicand n)) (half_size n + 484) most-digits (omega (arith, half_le))

  -- the root's square, in units of which the radicand has a whole number
  in-units : 4 * radicand n * (2 ^ (half_size n + 484) * 2 ^ (half_size n + 484)) ≡ 4 * (n * 2 ^ 1074)
  in-units =
      let h = half_size n in
      let e : h + 484 + (h + 484) ≡ 2 * h + 968 = omega arith in
      mul_assoc 4 (radicand n) (2 ^ (h + 484) * 2 ^ (h + 484))
      ∙ ap (λ (x : ℕ). 4 * x)
      (ap (λ (x : ℕ). radicand n * x) (sym (pow-add 2 (h + 484) (h + 484)) ∙ ap (λ (i : ℕ). 2 ^ i) e ∙ pow-add 2 (2 * h) 968)
      ∙ sym (mul_assoc (radicand n) (2 ^ (2 * h)) (2 ^ 968))
      ∙ ap (λ (x : ℕ). x * 2 ^ 968) exact
      ∙ mul_assoc n (2 ^ 106) (2 ^ 968))

  units-is : units (root_of_units n) ≡ root_units n
  units-is = units-of-value (root_of_units n) false (root_units n) root-value

  normal-units : 2 ^ 52 ≤ root_units n
  normal-units = le_trans least-digits (le-mul_of_pos_right (nearest_root (radicand n)) (pow_pos (half_size n + 484)))

  pub root-fits : T (fits binary64 (root_of_units n))
  unfolding root_of_units
  root-fits = round-fits binary64 false (root_units n) (2 ^ 1074)

  below-units : (Y b j : ℕ) → Y ≡ b * 2 ^ j → b < 2 ^ 53 → Y < root_units n → (Y + root_units n) * (Y + root_units n) < 4 * (n * 2 ^ 1074)
  below-units Y b j e s l =
      subst (λ (z : ℕ). (Y + root_units n) * (Y + root_units n) < z) in-units
      (below near many few (half_size n + 484) Y b j e s l)

  above-units : (Y b j : ℕ) → Y ≡ b * 2 ^ j → b < 2 ^ 53 → root_units n < Y → 4 * (n * 2 ^ 1074) < (Y + root_units n) * (Y + root_units n)
  above-units Y b j e s l =
      subst (λ (z : ℕ). z < (Y + root_units n) * (Y + root_units n)) in-units
      (above near many few (half_size n + 484) Y b j e s l)

-- ---- the laws

-- r is the root of x, a finite double above 0
pub record RootNearest (x r : Float) : Type 0 where
  pub held : T (fits binary64 r)
  pub finite : T (positive r)
  -- 2 ^ 52 units are the smallest normal double
  pub normal : 2 ^ 52 ≤ units r
  -- twice the midpoint of r and any double y below it is below twice √x, and of any above it above. A negative double is further than its size is
  pub below : (y : Float) → T (fits binary64 y) → T (is_finite y) → units y < units r → (units y + units r) * (units y + units r) < 4 * (units x * 2 ^ 1074)
  pub above : (y : Float) → T (fits binary64 y) → T (is_finite y) → units r < units y → 4 * (units x * 2 ^ 1074) < (units y + units r) * (units y + units r)

pub positive-units : (m : ℕ) (e : ℤ) → T (fits binary64 (fin false (suc m) e)) → PositiveUnits (units_of (suc m) e)
positive-units m e f =
    let d = double false (suc m) e f in
    let is = units-shifted d in
    record {
      c = suc m;
      k = d.shift;
      is = is;
      short = d.short;
      above_zero = subst (λ (x : ℕ). 0 < x) (sym is) (mul-pos (zero-lt-suc m) (pow_pos d.shift));
      under = units_under d;
    }

finite-of : (x : Float) → T (positive x) → T (is_finite x)
unfolding is_finite
finite-of nan p = absurd p
finite-of (inf s) p = absurd p
finite-of (fin s m e) p = tt

nearest-of-units : (n : ℕ) → PositiveUnits n → (x : Float) → units x ≡ n → RootNearest x (root_of_units n)
unfolding is_finite
nearest-of-units n p x e = record {
  held = root-fits n p;
  finite = positive_of_value (root_of_units n) (root_units n) (2 ^ 1074) (root-value n p) (lt_of_lt_of_le (pow_pos 52) (normal-units n p));
  normal = rw u (normal-units n p);
  below = lower;
  above = upper;
}
  where
    u : units (root_of_units n) ≡ root_units n
    u = units-is n p

    lower : (y : Float) → T (fits binary64 y) → T (is_finite y) → units y < units (root_of_units n) → (units y + units (root_of_units n)) * (units y + units (root_of_units n)) < 4 * (units x * 2 ^ 1074)
    lower nan f h l = absurd h
    lower (inf s) f h l = absurd h
    lower (fin s b d) f h l =
        let D = double s b d f in
        rw (u, e) (below-units n p (units_of b d) b D.shift (units-shifted D) D.short (rw u at l))

    upper : (y : Float) → T (fits binary64 y) → T (is_finite y) → units (root_of_units n) < units y → 4 * (units x * 2 ^ 1074) < (units y + units (root_of_units n)) * (units y + units (root_of_units n))
    upper nan f h l = absurd h
    upper (inf s) f h l = absurd h
    upper (fin s b d) f h l =
        let D = double s b d f in
        rw (u, e) (above-units n p (units_of b d) b D.shift (units-shifted D) D.short (rw u at l))

pub root-nearest : (x : Float) → T (fits binary64 x) → T (positive x) → RootNearest x (root x)
unfolding root
root-nearest nan f p = absurd p
root-nearest (inf s) f p = absurd p
root-nearest (fin true m e) f p = absurd p
root-nearest (fin false zero e) f p = absurd p
root-nearest (fin false (suc m) e) f p = nearest-of-units (units_of (suc m) e) (positive-units m e f) (fin false (suc m) e) refl

-- ---- beside the finite numbers above 0

below-zero : (x : Float) → lt x 0· ≡ true → root x ≡ nan
unfolding lt root of_bits
below-zero nan h = absurd (false≢true h)
below-zero (inf true) h = refl
below-zero (inf false) h = absurd (false≢true h)
below-zero (fin true zero e) h = absurd (omega (arith, ltb-true 0 (zero * up e * 1 + 0 * 1 * down e) h, zero-mul (up e)))
below-zero (fin true (suc m) e) h = refl
below-zero (fin false m e) h = absurd (omega (arith, ltb-true (m * up e * 1) (0 * 1 * down e) h))

-- the numbers that have a root
data Rooted : Float → Type 0 where
  none : (s : Bool) (e : ℤ) → Rooted (fin s zero e)
  some : (m : ℕ) (e : ℤ) → Rooted (fin false (suc m) e)
  all : Rooted (inf false)

rooted : (x : Float) → is_nan x ≡ false → lt x 0· ≡ false → Rooted x
unfolding is_nan lt of_bits
rooted nan p q = absurd (true≢false p)
rooted (inf true) p q = absurd (true≢false q)
rooted (inf false) p q = all
rooted (fin s zero e) p q = none s e
rooted (fin false (suc m) e) p q = some m e
rooted (fin true (suc m) e) p q = absurd (omega (arith, ltb-false 0 (suc m * up e * 1 + 0 * 1 * down e) q, suc-mul m (up e), up_pos e))

number : {x : Float} → Rooted x → is_nan (root x) ≡ false
unfolding root is_nan
number (none s e) = refl
number (some m e) = nonneg→number (root-nonneg (finite (suc m) e))
number all = refl

-- what IEEE 754 says of every other float
pub record RootSpecial : Type 0 where
  -- the root of -0 is -0, and that of +0 is +0
  pub of_zero : (s : Bool) (e : ℤ) → root (fin s 0 e) ≡ fin s 0 e
  pub of-infinity : root (inf false) ≡ inf false
  pub of_nan : root nan ≡ nan
  -- no number below 0 has a root, minus infinity among them
  pub below-zero : (x : Float) → lt x 0· ≡ true → root x ≡ nan
  -- and every number that is not below 0 has one
  pub else-number : (x : Float) → is_nan x ≡ false → lt x 0· ≡ false → is_nan (root x) ≡ false

pub root-special : RootSpecial
unfolding root
root-special = record { of_zero = λ s e. refl; of-infinity = refl; of_nan = refl; below-zero = below-zero; else-number = λ x p q. number (rooted x p q) }

-- ---- the order

-- a double between the two roots and their midpoint would be nearer to one of them
units-monotone : {x y r s : Float} → units x ≤ units y → RootNearest x r → RootNearest y s → units r ≤ units s
units-monotone {x} {y} {r} {s} l a b =
    le_of_suc-le-suc
    (lt_of_not-le
    (λ (g : units s < units r).
    let h : 4 * (units y * 2 ^ 1074) < (units r + units s) * (units r + units s) = b.above r a.held (finite-of r a.finite) g in
    let k : (units s + units r) * (units s + units r) < 4 * (units x * 2 ^ 1074) = a.below s b.held (finite-of s b.finite) g in
    lt_irrefl (4 * (units y * 2 ^ 1074))
    (lt_of_lt_of_le (lt_trans h (subst (λ (z : ℕ). z * z < 4 * (units x * 2 ^ 1074)) (add_comm (units s) (units r)) k)) (mul-le-mul_left 4 (mul-le-mul_right (2 ^ 1074) l)))))

zero-lt : (s : Bool) (e : ℤ) (m : ℕ) (d : ℤ) → lt (fin s zero e) (fin false (suc m) d) ≡ true
unfolding lt
zero-lt false e m d = lt-ltb (zero * up e * down d) (suc m * up d * down e) (simp zero-mul (mul-pos (mul-pos (zero-lt-suc m) (up_pos d)) (down_pos e)))
zero-lt true e m d = lt-ltb 0 (zero * up e * down d + suc m * up d * down e) (simp (zero-mul, zero-add) (mul-pos (mul-pos (zero-lt-suc m) (up_pos d)) (down_pos e)))

zero-le : (s : Bool) (e : ℤ) → le (fin s zero e) 0· ≡ true
unfolding of_bits
zero-le s e = Order.eq→le _ _ (eq-zeros s false e (pos 0))

positive-value : (x : Float) → T (fits binary64 x) → T (positive x) → HasValue x false (units x) (2 ^ 1074)
positive-value nan f p = absurd p
positive-value (inf s) f p = absurd p
positive-value (fin true m e) f p = absurd p
positive-value (fin false m e) f p = own-units false m e f

positive-monotone : (x y : Float) → T (fits binary64 x) → T (fits binary64 y) → T (positive x) → T (positive y) → le x y ≡ true → le (root x) (root y) ≡ true
positive-monotone x y f g p q l =
    let a = root-nearest x f p in
    let b = root-nearest y g q in
    let h : units x * 2 ^ 1074 ≤ units y * 2 ^ 1074 = values_of_le x y (units x) (2 ^ 1074) (units y) (2 ^ 1074) p q (positive-value x f p) (positive-value y g q) (subst T (sym l) tt) in
    let k = units-monotone (le_of_mul-le-mul_right h (pow_pos 1074)) a b in
    is_true (le (root x) (root y))
    (le_of_values (root x) (root y) (units (root x)) (2 ^ 1074) (units (root y)) (2 ^ 1074) (pow_pos 1074) (pow_pos 1074) (positive-value (root x) a.held a.finite) (positive-value (root y) b.held b.finite)
    (mul-le-mul_right (2 ^ 1074) k))

to-infinity : {x : Float} → Nonneg x → le x (inf false) ≡ true
unfolding le
to-infinity infinite = refl
to-infinity (finite m e) = refl

monotone : {x y : Float} → Rooted x → Rooted y → T (fits binary64 x) → T (fits binary64 y) → le x y ≡ true → le (root x) (root y) ≡ true
unfolding root le
monotone (none s e) (none t d) f g l = l
monotone (none s e) (some n d) f g l = Order.le_trans (fin s zero e) 0· (root (fin false (suc n) d)) (zero-le s e) (nonneg-le (root-nonneg (finite (suc n) d)))
monotone (none s e) all f g l = refl
monotone (some m e) (none t d) f g l = absurd (true≢false (sym l ∙ Order.lt→not-le (fin t zero d) (fin false (suc m) e) (zero-lt t d m e)))
monotone (some m e) (some n d) f g l = positive-monotone (fin false (suc m) e) (fin false (suc n) d) f g (lt→ltb 0 (suc m) (zero-lt-suc m)) (lt→ltb 0 (suc n) (zero-lt-suc n)) l
monotone (some m e) all f g l = to-infinity (root-nonneg (finite (suc m) e))
monotone all (none t d) f g l = absurd (false≢true l)
monotone all (some n d) f g l = absurd (false≢true l)
monotone all all f g l = refl

-- a larger number has no smaller root
pub root-monotone : (x y : Float) → T (fits binary64 x) → T (fits binary64 y) → lt x 0· ≡ false → le x y ≡ true → le (root x) (root y) ≡ true
root-monotone x y f g h l =
    let (p, q) = Order.le→number x y l in
    monotone (rooted x p h) (rooted y q (Order.never (lt y 0·) (λ k. true≢false (sym (Order.le_lt_trans x y 0· l k) ∙ h)))) f g l
