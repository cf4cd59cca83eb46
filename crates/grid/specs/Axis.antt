-- The grid's values on an axis in a window: each span between the window's ends and the knots between them in eighths, of dense knots only every second, third and so on. Definitions only.
use Rattle.std.specs.Prelude.{◌≡◌, ℕ, zero, suc, ◌+◌, ◌-◌, ◌/◌, max, Bool, true, cond, ◌&&◌, List, [], ◌∷◌, ◌++◌, length, take, Float}
use Rattle.std.specs.Float.Ieee.{lt, le, eq}
use Rattle.spline.specs.Knots.{Axis, low, high}
use Rattle.domain.specs.Intervals.{eighth_of}
use Rattle.grid.specs.declared.Values.{Values}

unfoldable pub filter : (Float → Bool) → List Float → List Float
filter f [] = []
filter f (x ∷ xs) = cond (f x) (x ∷ filter f xs) (filter f xs)

-- x, and of the numbers after it those that differ from the one before
unfoldable pub distinct_from : Float → List Float → List Float
distinct_from x [] = x ∷ []
distinct_from x (y ∷ ys) = cond (eq x y) (distinct_from x ys) (x ∷ distinct_from y ys)

unfoldable pub distinct : List Float → List Float
distinct [] = []
distinct (x ∷ xs) = distinct_from x xs

-- the first after k, and then with s left out before each
unfoldable pub every : ℕ → ℕ → List Float → List Float
every s k [] = []
every s zero (x ∷ xs) = x ∷ every s s xs
every s (suc k) (x ∷ xs) = every s k xs

-- the first of the numbers that equals x, or x
unfoldable pub first_equal : Float → List Float → Float
first_equal x [] = x
first_equal x (k ∷ ks) = cond (eq k x) k (first_equal x ks)

-- a window of the knot domain, from lo to hi
abbrev pub Within : Axis → Float → Float → Type 0
Within a lo hi = (lt lo hi ≡ true) × (le (low a) lo ≡ true) × (le hi (high a) ≡ true)

-- where the window begins and ends: an end that equals the domain's has the source's bits, those of the first of equal knots and of the domain's high end
unfoldable pub start_of : Axis → Float → Float
start_of a lo = cond (eq lo (low a)) (first_equal lo a.knots) lo

unfoldable pub end_of : Axis → Float → Float
end_of a hi = cond (eq hi (high a)) (high a) hi

-- the distinct knots strictly between
unfoldable pub inner_of : Axis → Float → Float → List Float
inner_of a lo hi = distinct (filter (λ t. lt lo t && lt t hi) a.knots)

unfoldable pub breaks_of : Axis → Float → Float → List Float
breaks_of a lo hi = start_of a lo ∷ (inner_of a lo hi ++ (end_of a hi ∷ []))

-- so that at most 24 are left
unfoldable pub stride : ℕ → ℕ
stride n = max 1 ((n + 23) / 24)

unfoldable pub thinned : Axis → Float → Float → List Float
thinned a lo hi =
    let bs = breaks_of a lo hi in
    distinct (every (stride (length bs) - 1) 0 bs ++ (end_of a hi ∷ []))

-- k values from the j-th eighth between x and y on
unfoldable pub eighths : ℕ → ℕ → Float → Float → List Float
eighths zero j x y = []
eighths (suc k) j x y = eighth_of x y j ∷ eighths k (suc j) x y

unfoldable pub between : List Float → List Float
between [] = []
between (x ∷ []) = []
between (x ∷ y ∷ ys) = eighths 8 0 x y ++ between (y ∷ ys)

-- the last value is the window's end
unfoldable pub values_of : Axis → Float → Float → List Float
values_of a lo hi = between (thinned a lo hi) ++ (end_of a hi ∷ [])

-- the values that an array of them holds
abbrev pub listed : Values → List Float
listed vs = take vs.count vs.at
