-- A finite double and its bit pattern, in whole numbers: what a pattern without its sign counts of the smallest double, 2 ^ -1074. Assumes nothing.
use Rattle.std.specs.Prelude.{◌≡◌, refl, ◌⊎◌, Bool, true, false, not, cond, ℕ, zero, suc, ◌+◌, ◌-◌, ◌*◌, ◌/◌, ◌%◌, ◌^◌, ◌≤◌, ◌<◌, ℤ, T, ltb, Float}
use Rattle.std.proofs.Common.{sym, ap, subst, ◌∙◌, inl, inr, lt_of_le_of_lt, eq-zero-or-pos, mul_assoc, zero-add, zero-mul, mul-div_cancel, mul-le-mul_right, le_of_mul-le-mul_right, arith, pow-add, pow_pos, shl_lt, ltb→lt, nltb→le}
use Rattle.std.specs.Float.{nan, inf, fin, binary64}
use Rattle.std.specs.Float.Ieee.{down, size, fits, to_bits}
use Rattle.std.specs.Float.Ieee.Digits.{size-lt, size-le, size_reaches, back}
use Rattle.std.specs.Float.Ieee.Fits.{kept-lt, down_pos}
use Rattle.std.specs.Float.Ieee.Exact.{HasValue}
use Rattle.float64.specs.Functions.{units_of}
use Rattle.float64.specs.Units.{Double, exponent-lt, double, units-shifted, units_under}
use Rattle.float64.specs.Patterns.{units_of_bits}

-- The pattern b, without a sign, is that of n of the smallest doubles: the digits c, with k zeros after them. The leading digit adds one to the exponent's field.
pub record Written (n b : ℕ) : Type 0 where
  pub c : ℕ
  pub k : ℕ
  pub number : n ≡ c * 2 ^ k
  pub pattern : b ≡ k * 2 ^ 52 + c
  pub small : c < 2 ^ 53
  pub leading : (2 ^ 52 ≤ c) ⊎ (k ≡ 0)

-- only 0 has the pattern 0
pub above-nothing : {n b : ℕ} → 0 < n → Written n b → 0 < b
above-nothing {n} {b} h w = go w.c refl
  where
    go : (c : ℕ) → w.c ≡ c → 0 < b
    go zero e = absurd (omega (arith, w.number ∙ ap (λ (x : ℕ). x * 2 ^ w.k) e ∙ zero-mul (2 ^ w.k)))
    go (suc c) e = omega (arith, w.pattern)

-- ---- a number has one pattern

-- as `to_bits` writes it: the 53 leading digits of n, and in the field how many follow them
abbrev pub pattern_of : ℕ → ℕ
pattern_of n = let k = size n - 53 in k * 2 ^ 52 + n / 2 ^ k

-- the zeros after 53 digits are as many as the number's digits beyond 53
dropped : (c k : ℕ) → c < 2 ^ 53 → (2 ^ 52 ≤ c) ⊎ (k ≡ 0) → size (c * 2 ^ k) - 53 ≡ k
dropped c k s l = go l
  where
    hi : size (c * 2 ^ k) ≤ 53 + k
    hi = size-le (c * 2 ^ k) (53 + k) (shl_lt 53 k s)

    lo : 2 ^ 52 ≤ c → 52 + k < size (c * 2 ^ k)
    lo h = exponent-lt (52 + k) (size (c * 2 ^ k)) (lt_of_le_of_lt (subst (λ (x : ℕ). x ≤ c * 2 ^ k) (sym (pow-add 2 52 k)) (mul-le-mul_right (2 ^ k) h)) (size-lt (c * 2 ^ k)))

    go : (2 ^ 52 ≤ c) ⊎ (k ≡ 0) → size (c * 2 ^ k) - 53 ≡ k
    go (inl h) = omega (arith, hi, lo h)
    go (inr z) = omega (arith, hi)

one-pattern : {n b : ℕ} → Written n b → pattern_of n ≡ b
one-pattern {n} {b} w =
    let k = w.k in
    ap pattern_of w.number
    ∙ ap (λ (z : ℕ). z * 2 ^ 52 + w.c * 2 ^ k / 2 ^ z) (dropped w.c k w.small w.leading)
    ∙ ap (λ (x : ℕ). k * 2 ^ 52 + x) (mul-div_cancel w.c (pow_pos k))
    ∙ sym w.pattern

-- where digits were dropped, the leading one is among those kept
leads : (n c k : ℕ) → size n - 53 ≡ k → c * 2 ^ k ≡ n → (2 ^ 52 ≤ c) ⊎ (k ≡ 0)
leads n c k z e = elim (eq-zero-or-pos k) [
  | inl h ↦ inr h
  | inr h ↦
      inl (le_of_mul-le-mul_right
      (subst (λ (x : ℕ). 2 ^ 52 * 2 ^ k ≤ x) (sym e) (subst (λ (x : ℕ). x ≤ n) (pow-add 2 52 k) (size_reaches n (52 + k) (omega arith))))
      (pow_pos k))
]

-- m below 2 ^ 53, with j zeros after it, has a pattern
pattern-of : (m j : ℕ) → m < 2 ^ 53 → Written (m * 2 ^ j) (pattern_of (m * 2 ^ j))
pattern-of m j h =
    let n = m * 2 ^ j in
    let k = size n - 53 in
    let k-le : k ≤ j = omega (arith, size-le n (53 + j) (shl_lt 53 j h)) in
    let c = m * 2 ^ (j - k) in
    let cut : c * 2 ^ k ≡ n = mul_assoc m (2 ^ (j - k)) (2 ^ k) ∙ ap (λ (x : ℕ). m * x) (sym (pow-add 2 (j - k) k) ∙ ap (λ (x : ℕ). 2 ^ x) (back j k k-le)) in
    let kept : n / 2 ^ k ≡ c = ap (λ (x : ℕ). x / 2 ^ k) (sym cut) ∙ mul-div_cancel c (pow_pos k) in
    record {
      c = c;
      k = k;
      number = sym cut;
      pattern = ap (λ (x : ℕ). k * 2 ^ 52 + x) kept;
      small = subst (λ (x : ℕ). x < 2 ^ 53) kept (kept-lt 53 n);
      leading = leads n c k refl cut;
    }

units-written : {m : ℕ} {e : ℤ} → Double m e → Written (units_of m e) (pattern_of (units_of m e))
units-written {m} d = subst (λ (n : ℕ). Written n (pattern_of n)) (sym (units-shifted d)) (pattern-of m d.shift d.short)

-- the numbers below 2 ^ 2098 have the patterns below the infinity's
written-lt : {n b : ℕ} → n < 2 ^ 2098 → Written n b → b < 2047 * 2 ^ 52
written-lt {n} {b} h w = go w.leading
  where
    go : (2 ^ 52 ≤ w.c) ⊎ (w.k ≡ 0) → b < 2047 * 2 ^ 52
    go (inl l) =
        let r : 52 + w.k < 2098 =
        exponent-lt (52 + w.k) 2098 (lt_of_le_of_lt (subst (λ (x : ℕ). x ≤ n) (sym (pow-add 2 52 w.k)) (subst (λ (x : ℕ). 2 ^ 52 * 2 ^ w.k ≤ x) (sym w.number) (mul-le-mul_right (2 ^ w.k) l))) h) in
        omega (arith, w.pattern, w.small)
    go (inr z) = omega (arith, w.pattern, w.small)

-- ---- the laws: reading

to_bits_is : (s : Bool) (m : ℕ) (e : ℤ) → to_bits binary64 (fin s m e) ≡ cond s (2 ^ 63) 0 + pattern_of (units_of m e)
unfolding to_bits
to_bits_is s m e = omega arith

to_bits-plain : (m : ℕ) (e : ℤ) → to_bits binary64 (fin false m e) ≡ pattern_of (units_of m e)
to_bits-plain m e = to_bits_is false m e ∙ zero-add (pattern_of (units_of m e))

-- the sign is the highest bit
pub to_bits-sign : (s : Bool) (m : ℕ) (e : ℤ) → to_bits binary64 (fin s m e) ≡ cond s (2 ^ 63) 0 + to_bits binary64 (fin false m e)
to_bits-sign s m e = to_bits_is s m e ∙ ap (λ (x : ℕ). cond s (2 ^ 63) 0 + x) (sym (to_bits-plain m e))

pub sign-off : (s : Bool) (p : ℕ) → p ≤ 2047 * 2 ^ 52 → (cond s (2 ^ 63) 0 + p) % 2 ^ 63 ≡ p
sign-off true p h = omega arith
sign-off false p h = omega arith

-- a finite double's pattern tells how many of the smallest doubles it is
pub to_bits-written : (s : Bool) (m : ℕ) (e : ℤ) → T (fits binary64 (fin s m e)) → Written (units_of m e) (to_bits binary64 (fin false m e))
to_bits-written s m e f = subst (λ (b : ℕ). Written (units_of m e) b) (sym (to_bits-plain m e)) (units-written (double s m e f))

pub to_bits-finite : (s : Bool) (m : ℕ) (e : ℤ) → T (fits binary64 (fin s m e)) → to_bits binary64 (fin false m e) < 2047 * 2 ^ 52
to_bits-finite s m e f = written-lt (units_under (double s m e f)) (to_bits-written s m e f)

pub to_bits_inf : (s : Bool) → to_bits binary64 (inf s) ≡ cond s (2 ^ 63) 0 + 2047 * 2 ^ 52
unfolding to_bits
to_bits_inf s = refl

-- ---- the laws: writing

pub value-to_bits : (y : Float) (s : Bool) (n : ℕ) → HasValue y s n (2 ^ 1074) → to_bits binary64 y ≡ cond s (2 ^ 63) 0 + pattern_of n
value-to_bits nan s n v = absurd v
value-to_bits (inf t) s n v = absurd v
value-to_bits (fin t m e) s n v =
    let u : units_of m e ≡ n = ap (λ (x : ℕ). x / down e) v.1 ∙ mul-div_cancel n (down_pos e) in
    to_bits_is t m e ∙ ap (λ (x : Bool). cond x (2 ^ 63) 0 + pattern_of (units_of m e)) v.0 ∙ ap (λ (x : ℕ). cond s (2 ^ 63) 0 + pattern_of x) u

pub written-to_bits : {n b : ℕ} → Written n b → (y : Float) (s : Bool) → HasValue y s n (2 ^ 1074) → to_bits binary64 y ≡ cond s (2 ^ 63) 0 + b
written-to_bits {n} {b} w y s v = value-to_bits y s n v ∙ ap (λ (x : ℕ). cond s (2 ^ 63) 0 + x) (one-pattern w)

-- ---- the definition of `units_of_bits`

-- what the pattern of n units stands for
abbrev Stands : ℕ → ℕ → Type 0
Stands b n = cond (ltb b (2 ^ 52)) b ((2 ^ 52 + b % 2 ^ 52) * 2 ^ (b / 2 ^ 52 - 1)) ≡ n

without-leading : (n b c : ℕ) → n ≡ c * 2 ^ 0 → b ≡ c → c < 2 ^ 52 → Stands b n
without-leading n b c p q l = grind arith

with-leading : (n b c k : ℕ) → n ≡ c * 2 ^ k → b ≡ k * 2 ^ 52 + c → c < 2 ^ 53 → 2 ^ 52 ≤ c → Stands b n
with-leading n b c k p q l g = grind arith

pub units-of-written : {n b : ℕ} → Written n b → units_of_bits b ≡ n
unfolding units_of_bits
units-of-written {n} {b} w = go w.leading
  where
    by : w.k ≡ 0 → (t : Bool) → (T t → w.c < 2 ^ 52) → (T (not t) → 2 ^ 52 ≤ w.c) → Stands b n
    by z true l g = without-leading n b w.c (w.number ∙ ap (λ (k : ℕ). w.c * 2 ^ k) z) (omega (arith, w.pattern)) (l tt)
    by z false l g = with-leading n b w.c w.k w.number w.pattern w.small (g tt)

    go : (2 ^ 52 ≤ w.c) ⊎ (w.k ≡ 0) → Stands b n
    go (inl g) = with-leading n b w.c w.k w.number w.pattern w.small g
    go (inr z) = by z (ltb w.c (2 ^ 52)) (ltb→lt w.c (2 ^ 52)) (nltb→le w.c (2 ^ 52))
