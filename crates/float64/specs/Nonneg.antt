-- The numbers of sign plus, +0 or above, and which sums, squares and roots are among them. Assumes nothing.
use Rattle.std.specs.Prelude.{◌≡◌, refl, Bool, true, false, not, ◌&&◌, cond, ℕ, zero, suc, ◌+◌, ◌-◌, ◌*◌, ◌^◌, ℤ, pos, ltb, Float}
use Rattle.std.specs.Bool.{beq}
use Rattle.std.proofs.Common.{true≢false, zero-le, zero-mul, le-ltb}
use Rattle.std.proofs.lemmas.Bool.{false≢true}
use Rattle.std.specs.Float.{nan, inf, fin, Format, binary64}
use Rattle.std.specs.Float.Ieee.{prec, emax, low, up, down, lt, le, is_nan, odd, units, round, sum, neg, add, sub, mul, of_bits}
use Rattle.std.specs.Float.Ieee.Fits.{round_is}
use Rattle.float64.specs.Operators.{◌⊕◌, ◌⊖◌, ◌⊗◌, 0·}
use Rattle.float64.specs.Functions.{is_finite, root_of_units, root}
use Rattle.float64.specs.Order.{le_not_lt}

-- a number whose sign is plus: +0 or above
pub data Nonneg : Float → Type 0 where
  infinite : Nonneg (inf false)
  finite : (m : ℕ) (e : ℤ) → Nonneg (fin false m e)

pub nonneg→number : {x : Float} → Nonneg x → is_nan x ≡ false
unfolding is_nan
nonneg→number infinite = refl
nonneg→number (finite m e) = refl

pub nonneg-not-below : {x : Float} → Nonneg x → lt x 0· ≡ false
unfolding lt of_bits
nonneg-not-below infinite = refl
nonneg-not-below (finite m e) = le-ltb (m * up e * 1) (0 * down e) (rw zero-mul zero-le)

pub zero-nonneg : Nonneg 0·
unfolding of_bits
zero-nonneg = finite 0 (pos 0)

pub nonneg-le : {x : Float} → Nonneg x → le 0· x ≡ true
nonneg-le {x} p = simp (le_not_lt 0· x (nonneg→number zero-nonneg) (nonneg→number p), nonneg-not-below p)

-- What `round` gives is an infinity or a finite float, with the sign that it is handed.
module _ (P : Float → Type 0) (s : Bool) (i : P (inf s)) (j : (m : ℕ) (e : ℤ) → P (fin s m e)) where
  odd-cases : (d q k l : ℕ) → P (odd d s q k l)
  unfolding odd
  odd-cases d zero k l = j 0 (pos 0)
  odd-cases d (suc q) k l = j _ _

  units-cases : (f : Format) (q k : ℕ) → P (units f s q k)
  unfolding units
  units-cases f q k = by (ltb (q * 2 ^ k) (2 ^ (low f + suc (emax f))))
    where
      by : (t : Bool) → P (cond t (odd (suc (prec f)) s q k (low f)) (inf s))
      by true = odd-cases (suc (prec f)) q k (low f)
      by false = i

  pub round-cases : (f : Format) (a b : ℕ) → P (round f s a b)
  round-cases f a b = rw round_is (units-cases f _ _)

pub round-nonneg : (f : Format) (a b : ℕ) → Nonneg (round f false a b)
round-nonneg = round-cases Nonneg false infinite finite

pub square-nonneg : (x : Float) → is_nan x ≡ false → Nonneg (x ⊗ x)
unfolding mul is_nan
square-nonneg nan p = absurd (true≢false p)
square-nonneg (inf true) p = infinite
square-nonneg (inf false) p = infinite
square-nonneg (fin true m e) p = round-nonneg binary64 (m * up e * (m * up e)) (down e * down e)
square-nonneg (fin false m e) p = round-nonneg binary64 (m * up e * (m * up e)) (down e * down e)

pub sum_nonneg : {x y : Float} → Nonneg x → Nonneg y → Nonneg (x ⊕ y)
unfolding add
sum_nonneg infinite infinite = infinite
sum_nonneg infinite (finite n d) = infinite
sum_nonneg (finite m e) infinite = infinite
sum_nonneg (finite m e) (finite n d) = round-nonneg binary64 (m * up e * down d + n * up d * down e) (down e * down d)

pub root-nonneg : {x : Float} → Nonneg x → Nonneg (root x)
unfolding root root_of_units
root-nonneg infinite = infinite
root-nonneg (finite zero e) = finite 0 e
root-nonneg (finite (suc m) e) = round-nonneg binary64 _ _

round_number : (f : Format) (s : Bool) (a b : ℕ) → is_nan (round f s a b) ≡ false
unfolding is_nan
round_number f s a b = round-cases (λ x. is_nan x ≡ false) s refl (λ m e. refl) f a b

cond-number : (t : Bool) (x y : Float) → is_nan x ≡ false → is_nan y ≡ false → is_nan (cond t x y) ≡ false
cond-number true x y p q = p
cond-number false x y p q = q

sum_number : (f : Format) (s : Bool) (a : ℕ) (t : Bool) (b c : ℕ) → is_nan (sum f s a t b c) ≡ false
unfolding sum
sum_number f s a t b c =
    cond-number (beq s t) _ _ (round_number f s (a + b) c)
    (cond-number (ltb a b) _ _ (round_number f t (b - a) c) (round_number f (s && ltb b a) (a - b) c))

-- the sum and the difference of finite floats are numbers, if perhaps infinite
pub finite-add-number : (x y : Float) → is_finite x ≡ true → is_finite y ≡ true → is_nan (x ⊕ y) ≡ false
unfolding is_finite add
finite-add-number nan y p q = absurd (false≢true p)
finite-add-number (inf s) y p q = absurd (false≢true p)
finite-add-number (fin s m e) nan p q = absurd (false≢true q)
finite-add-number (fin s m e) (inf t) p q = absurd (false≢true q)
finite-add-number (fin s m e) (fin t n d) p q = sum_number binary64 s (m * up e * down d) t (n * up d * down e) (down e * down d)

pub finite-sub-number : (x y : Float) → is_finite x ≡ true → is_finite y ≡ true → is_nan (x ⊖ y) ≡ false
unfolding is_finite sub neg
finite-sub-number x nan p q = absurd (false≢true q)
finite-sub-number x (inf t) p q = absurd (false≢true q)
finite-sub-number x (fin t n d) p q = finite-add-number x (fin (not t) n d) p refl
