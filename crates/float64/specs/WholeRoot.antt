-- The root of a whole number below 2 ^ 106, cut (`whole_root`) and to the nearest (`nearest_root`), with the law of each. Assumes nothing.
use Rattle.std.specs.Prelude.{◌≡◌, ℕ, zero, suc, ◌+◌, ◌-◌, ◌*◌, ◌^◌, ◌≤◌, ◌<◌, Bool, true, false, not, cond, T, leb, ltb}
use Rattle.std.proofs.Common.{subst, pow-suc, arith, leb→le, ltb→lt, nltb→le}
use Rattle.std.proofs.Math.Dec.{nleb→lt}

-- q with the k lower binary digits of n's root put below it, from the highest on
unfoldable pub root_from : ℕ → ℕ → ℕ → ℕ
root_from zero q n = q
root_from (suc k) q n = let r = q + 2 ^ k in root_from k (cond (leb (r * r) n) r q) n

unfoldable pub whole_root : ℕ → ℕ
whole_root n = root_from 53 0 n

-- q is the root of n without its fraction
pub record IsRoot (q n : ℕ) : Type 0 where
  pub low : q * q ≤ n
  pub high : n < suc q * suc q

unfoldable pub nearest_root : ℕ → ℕ
nearest_root n = let q = whole_root n in cond (ltb q (n - q * q)) (suc q) q

-- c is the whole number nearest to the root of n, and there is no tie: 2c - 1 < 2√n < 2c + 1, squared
pub record IsNearest (c n : ℕ) : Type 0 where
  pub below : (k : ℕ) → c ≡ suc k → (2 * k + 1) * (2 * k + 1) < 4 * n
  pub above : 4 * n < (2 * c + 1) * (2 * c + 1)

-- one digit: b says whether the square of q + 2 ^ k is at most n
step : (k q n : ℕ) (b : Bool) → q * q ≤ n → n < (q + 2 ^ suc k) * (q + 2 ^ suc k)
    → (T b → (q + 2 ^ k) * (q + 2 ^ k) ≤ n) → (T (not b) → n < (q + 2 ^ k) * (q + 2 ^ k))
    → ((q' : ℕ) → q' * q' ≤ n → n < (q' + 2 ^ k) * (q' + 2 ^ k) → IsRoot (root_from k q' n) n)
    → IsRoot (root_from k (cond b (q + 2 ^ k) q) n) n
step k q n true l h t f ih = ih (q + 2 ^ k) (t tt) (subst (λ (x : ℕ). n < x * x) (omega (arith, pow-suc 2 k)) h)
step k q n false l h t f ih = ih q l (f tt)

from-holds : (k q n : ℕ) → q * q ≤ n → n < (q + 2 ^ k) * (q + 2 ^ k) → IsRoot (root_from k q n) n
unfolding root_from
from-holds zero q n l h = record { low = l; high = subst (λ (x : ℕ). n < x * x) (omega arith) h }
from-holds (suc k) q n l h =
    let r = q + 2 ^ k in
    step k q n (leb (r * r) n) l h (leb→le (r * r) n) (nleb→lt (r * r) n) (λ q'. from-holds k q' n)

pub whole-root : (n : ℕ) → n < 2 ^ 106 → IsRoot (whole_root n) n
unfolding whole_root
whole-root n h = from-holds 53 0 n (omega arith) (omega arith)

pub unsquare-lt : {a b : ℕ} → a * a < b * b → a < b
unsquare-lt {a} {b} h = grind arith

root-le : (q r n : ℕ) → IsRoot q n → IsRoot r n → q ≤ r
root-le q r n h k = grind arith

-- a number has one whole root
pub root-unique : (q r n : ℕ) → IsRoot q n → IsRoot r n → q ≡ r
root-unique q r n h k = grind arith

pub square-odd : (c : ℕ) → (2 * c + 1) * (2 * c + 1) ≡ 4 * (c * c) + 4 * c + 1
square-odd c = omega arith

pub square-suc : (q : ℕ) → suc q * suc q ≡ q * q + q + q + 1
square-suc q = omega arith

nearest-from : (q n : ℕ) (b : Bool) → IsRoot q n → (T b → q < n - q * q) → (T (not b) → n - q * q ≤ q) → IsNearest (cond b (suc q) q) n
nearest-from q n true r t f =
    record {
      below = λ k e. let p : q ≡ k = omega arith in subst (λ (x : ℕ). (2 * x + 1) * (2 * x + 1) < 4 * n) p (omega (arith, square-odd q, t tt, r.low));
      above = omega (arith, square-odd (suc q), square-suc q, r.high);
    }
nearest-from q n false r t f =
    record {
      below = λ k e. omega (arith, square-odd k, square-suc k, subst (λ (x : ℕ). x * x ≤ n) e r.low);
      above = omega (arith, square-odd q, f tt, r.low);
    }

pub nearest-root : (n : ℕ) → n < 2 ^ 106 → IsNearest (nearest_root n) n
unfolding nearest_root
nearest-root n h =
    let q = whole_root n in
    nearest-from q n (ltb q (n - q * q)) (whole-root n h) (ltb→lt q (n - q * q)) (nltb→le q (n - q * q))
