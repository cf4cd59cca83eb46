-- The methods of Rust's f64 that the source calls, on the values of std's `Float`. Definitions only.
-- IEEE 754-2019 decides the root (5.4.1, squareRoot) and rounding to a whole number (5.3.1, roundToIntegralTiesToAway).
use Rattle.std.specs.Prelude.{ℕ, zero, suc, ◌+◌, ◌*◌, ◌/◌, ◌^◌, Bool, true, false, cond, ℤ, Float}
use Rattle.std.specs.Float.{nan, inf, fin, binary64}
use Rattle.std.specs.Float.Ieee.{up, down, size, round, rem, lt, is_nan}
use Rattle.float64.specs.Operators.{◌⊕◌, 0·}
use Rattle.float64.specs.WholeRoot.{nearest_root}

-- neither an infinity nor a NaN
unfoldable pub is_finite : Float → Bool
is_finite nan = false
is_finite (inf s) = false
is_finite (fin s m e) = true

-- the sign cleared
unfoldable pub abs : Float → Float
abs nan = nan
abs (inf s) = inf false
abs (fin s m e) = fin false m e

-- the first where they are equal, as -0 and +0 are, or one of them is a NaN
abbrev pub larger : Float → Float → Float
larger x y = cond (lt x y) y x

abbrev pub lesser : Float → Float → Float
lesser x y = cond (lt y x) y x

-- a NaN gives way to the other number
unfoldable pub max : Float → Float → Float
max x y = cond (is_nan x) y (larger x y)

-- x itself unless it lies below lo or above hi, so a NaN and a zero of either sign pass
unfoldable pub clamp : Float → Float → Float → Float
clamp x lo hi = cond (lt x lo) lo (cond (lt hi x) hi x)

-- m * 2 ^ e in units of the smallest double, 2 ^ -1074: whole for every finite double
abbrev pub units_of : ℕ → ℤ → ℕ
units_of m e = m * up e * 2 ^ 1074 / down e

-- The root of n units, n above 0, is √(n * 2 ^ 1074) units. With h half the count of n's binary digits, rounded up, √(n * 2 ^ 106 / 2 ^ (2 * h)) has 53 digits
-- before the point, and 2 ^ (h + 484) times that is the root.
abbrev pub half_size : ℕ → ℕ
half_size n = (size n + 1) / 2

abbrev pub radicand : ℕ → ℕ
radicand n = n * 2 ^ 106 / 2 ^ (2 * half_size n)

-- the `round` is exact
unfoldable pub root_of_units : ℕ → Float
root_of_units n = round binary64 false (nearest_root (radicand n) * 2 ^ (half_size n + 484)) (2 ^ 1074)

unfoldable pub root : Float → Float
root nan = nan
root (inf true) = nan
root (inf false) = inf false
root (fin s zero e) = fin s zero e
root (fin true (suc m) e) = nan
root (fin false (suc m) e) = root_of_units (units_of (suc m) e)

-- the whole number nearest to x, a half away from zero, with x's sign
unfoldable pub round_away : Float → Float
round_away nan = nan
round_away (inf s) = inf s
round_away (fin s m e) = round binary64 s ((m * up e * 2 + down e) / (2 * down e)) 1

-- the truncated remainder, plus the divisor's size where it is below 0
unfoldable pub rem_euclid : Float → Float → Float
rem_euclid x y =
    let r = rem binary64 x y in
    cond (lt r 0·) (r ⊕ abs y) r
