-- Zeros and signs through the operations: what a factor of 0 leaves, and which differences, quotients, products and sums are not below 0. Assumes nothing.
use Rattle.std.specs.Prelude.{◌≡◌, Bool, true, false, not, ◌||◌, cond, ℕ, zero, suc, ◌+◌, ◌-◌, ◌*◌, ◌≤◌, ◌<◌, ltb, eqb, pos, Float}
use Rattle.std.proofs.Common.{sym, ◌∙◌, true≢false, zero-mul, mul-zero, one-mul, mul-one, mul-pos, arith, lit<, ltb-true, le-ltb, eqb-true, ne_eqb}
use Rattle.std.proofs.Math.Bool.{and-eq-true_iff}
use Rattle.std.proofs.lemmas.Bool.{false≢true}
use Rattle.std.proofs.Math.Nat.{sub-zero}
use Rattle.std.specs.Float.{nan, inf, fin, binary64}
use Rattle.std.specs.Float.Ieee.{up, down, unlike, round, sum, neg, add, sub, mul, div, below, level, le, eq, of_bits}
use Rattle.std.specs.Float.Ieee.Fits.{up_pos, down_pos}
use Rattle.std.specs.Float.Ieee.Scale.{round_same}
use Rattle.float64.specs.Compute as Float64
use Rattle.float64.specs.Operators.{◌⊕◌, ◌⊖◌, ◌⊗◌, ◌⊘◌, 0·}
use Rattle.float64.specs.Functions.{is_finite}
use Rattle.float64.specs.Order.{eq-zeros}
use Rattle.float64.specs.Nonneg.{Nonneg, infinite, finite, round-nonneg, sum_nonneg}
use Rattle.float64.specs.Differences.{either}

-- ---- a zero of either sign, or a NaN

pub data Nought : Float → Type 0 where
  missing : Nought nan
  nothing : (s : Bool) → Nought (fin s 0 (pos 0))

pub zero-nought : Nought 0·
unfolding of_bits
zero-nought = nothing false

round-0 : (s : Bool) (c : ℕ) → 0 < c → round binary64 s 0 c ≡ fin s 0 (pos 0)
unfolding Float64.compute
round-0 s c h = round_same binary64 s 0 c 0 1 h (lit< tt) (sym (zero-mul c))

-- whatever the other factor or the divisor is
pub nought-mul : (q : Float) {z : Float} → Nought z → Nought (q ⊗ z)
unfolding mul
nought-mul nan z = missing
nought-mul (inf s) missing = missing
nought-mul (inf s) (nothing t) = missing
nought-mul (fin s m e) missing = missing
nought-mul (fin s m e) (nothing t) = simp (mul-zero, mul-one, round-0 (unlike s t) (down e) (down_pos e)) (nothing (unlike s t))

mul-nought : {z : Float} → Nought z → (q : Float) → Nought (z ⊗ q)
unfolding mul
mul-nought missing q = missing
mul-nought (nothing s) nan = missing
mul-nought (nothing s) (inf t) = missing
mul-nought (nothing s) (fin t n d) = simp (zero-mul, one-mul, round-0 (unlike s t) (down d) (down_pos d)) (nothing (unlike s t))

pub nought-div : {z : Float} → Nought z → (l : Float) → Nought (z ⊘ l)
unfolding div
nought-div missing l = missing
nought-div (nothing s) nan = missing
nought-div (nothing s) (inf t) = nothing (unlike s t)
nought-div (nothing s) (fin t zero d) = missing
nought-div (nothing s) (fin t (suc n) d) = simp (ne_eqb (suc n) 0 (λ e. omega arith), zero-mul, mul-one, round-0 (unlike s t) (suc n * up d) (mul-pos (omega arith) (up_pos d))) (nothing (unlike s t))

pub nought-neg : {z : Float} → Nought z → Nought (neg z)
unfolding neg
nought-neg missing = missing
nought-neg (nothing s) = nothing (not s)

-- ---- a number not below 0, or a NaN

pub data NotBelow : Float → Type 0 where
  nought : {x : Float} → Nought x → NotBelow x
  above : {x : Float} → Nonneg x → NotBelow x

cond_above : (t : Bool) {x y : Float} → NotBelow x → NotBelow y → NotBelow (cond t x y)
cond_above true p q = p
cond_above false p q = q

-- ±a / c less ±b / c, where the second is not above the first
rise : (s : Bool) (a : ℕ) (t : Bool) (b c : ℕ) → 0 < c → (below t b s a || level t b s a) ≡ true → NotBelow (sum binary64 s a (not t) b c)
unfolding sum
rise false a false b c C h =
    let l : b ≤ a = either (ltb b a) (eqb b a) _ (λ t. omega (arith, ltb-true b a t)) (λ t. omega (arith, eqb-true b a t)) h in
    rw (le-ltb a b l) (above (round-nonneg binary64 (a - b) c))
rise false a true b c C h = above (round-nonneg binary64 (a + b) c)
rise true a false b c C h =
    let z = (and-eq-true_iff (eqb b a) (eqb b 0)).0 h in
    let n : a + b ≡ 0 = omega (arith, eqb-true b a z.0, eqb-true b 0 z.1) in
    rw (n, round-0 true c C) (nought (nothing true))
rise true a true b c C h =
    let l : a ≤ b = either (ltb a b) (eqb b a) _ (λ t. omega (arith, ltb-true a b t)) (λ t. omega (arith, eqb-true b a t)) h in
    rw (le-ltb b a l) (cond_above (ltb a b) (above (round-nonneg binary64 (b - a) c)) (above (round-nonneg binary64 (a - b) c)))

-- the difference of finite x ≤ y
pub difference-not-below : (x y : Float) → is_finite x ≡ true → is_finite y ≡ true → le x y ≡ true → NotBelow (y ⊖ x)
unfolding is_finite sub le
difference-not-below nan y f g l = absurd (false≢true f)
difference-not-below (inf t) y f g l = absurd (false≢true f)
difference-not-below (fin t m e) nan f g l = absurd (false≢true g)
difference-not-below (fin t m e) (inf s) f g l = absurd (false≢true g)
difference-not-below (fin t m e) (fin s k d) f g l = rise s (k * up d * down e) t (m * up e * down d) (down d * down e) (mul-pos (down_pos d) (down_pos e)) l

by-nan : (x : Float) → NotBelow (x ⊘ nan)
unfolding div
by-nan nan = nought missing
by-nan (inf s) = nought missing
by-nan (fin s m e) = nought missing

-- the quotient by such a number that is not 0
pub quotient-not-below : {x l : Float} → NotBelow x → NotBelow l → eq l 0· ≡ false → NotBelow (x ⊘ l)
unfolding div of_bits
quotient-not-below {x} p (nought missing) n = by-nan x
quotient-not-below p (nought (nothing s)) n = absurd (true≢false (sym (eq-zeros s false (pos 0) (pos 0)) ∙ n))
quotient-not-below {x} {l} (nought z) (above q) n = nought (nought-div z l)
quotient-not-below (above infinite) (above infinite) n = nought missing
quotient-not-below (above infinite) (above (finite k d)) n = above infinite
quotient-not-below (above (finite m e)) (above infinite) n = nought (nothing false)
quotient-not-below (above (finite m e)) (above (finite k d)) n =
    cond_above (eqb k 0) (cond_above (eqb m 0) (nought missing) (above infinite)) (above (round-nonneg binary64 (m * up e * down d) (k * up d * down e)))

-- the product with a number of sign plus
pub product-not-below : {x y : Float} → NotBelow x → Nonneg y → NotBelow (x ⊗ y)
unfolding mul
product-not-below {x} {y} (nought z) q = nought (mul-nought z y)
product-not-below (above infinite) infinite = above infinite
product-not-below (above infinite) (finite k d) = cond_above (eqb k 0) (nought missing) (above infinite)
product-not-below (above (finite m e)) infinite = cond_above (eqb m 0) (nought missing) (above infinite)
product-not-below (above (finite m e)) (finite k d) = above (round-nonneg binary64 (m * up e * (k * up d)) (down e * down d))

-- ---- a number of sign plus, or a NaN

pub data Plus : Float → Type 0 where
  lost : Plus nan
  plus : {x : Float} → Nonneg x → Plus x

-- a zero that is added leaves the sign
more : (s : Bool) {x : Float} → Nonneg x → Nonneg (x ⊕ fin s 0 (pos 0))
unfolding add sum
more s infinite = infinite
more true (finite m e) = simp (zero-mul, sub-zero, le-ltb (m * up e * 1) 0 (omega arith)) (round-nonneg binary64 (m * up e * 1) (down e * 1))
more false (finite m e) = sum_nonneg (finite m e) (finite 0 (pos 0))

-- the sum with a number that is not below 0
pub sum-plus : {x y : Float} → Plus x → NotBelow y → Plus (x ⊕ y)
unfolding add
sum-plus lost q = lost
sum-plus (plus infinite) (nought missing) = lost
sum-plus (plus (finite m e)) (nought missing) = lost
sum-plus (plus p) (nought (nothing s)) = plus (more s p)
sum-plus (plus p) (above q) = plus (sum_nonneg p q)
