-- One axis of a spline: when its knots are accepted, its domain, and where a parameter lies. Definitions only.
use Rattle.std.specs.Prelude.{Bool, true, not, cond, ◌&&◌, ◌||◌, List, [], ◌∷◌, ℕ, zero, suc, ◌+◌, ◌-◌, min, max, leb, ltb, eqb, length, drop, get_or, Float}
use Rattle.std.specs.Float.{nan}
use Rattle.std.specs.Float.Ieee.{lt, le, eq, ne}
use Rattle.float64.specs.Operators.{◌⊖◌, ◌⊗◌, 4ε}
use Rattle.float64.specs.Functions.{is_finite, abs}
use Rattle.float64.specs.Functions as Functions
use Rattle.spline.specs.declared.parameter.KnotSide.{KnotSide}
use Rattle.spline.specs.declared.parameter.KnotSide.TheVariants.{Left, Right}
use Rattle.spline.specs.declared.parameter.Snapped.{Snapped}
use Rattle.spline.specs.declared.parameter.Snapped.TheVariants.{At, Outside}

pub record Axis : Type 0 where
  pub degree : ℕ
  pub controls : ℕ
  pub knots : List Float

abbrev pub axis : ℕ → ℕ → List Float → Axis
axis p n ks = record { degree = p; controls = n; knots = ks }

abbrev pub knot : Axis → ℕ → Float
knot a i = get_or a.knots i nan

-- the knot domain, both ends included
abbrev pub low : Axis → Float
low a = knot a a.degree

abbrev pub high : Axis → Float
high a = knot a a.controls

-- ---- when knots are accepted

unfoldable pub all_finite : List Float → Bool
all_finite [] = true
all_finite (k ∷ ks) = is_finite k && all_finite ks

-- none is below the one before it
unfoldable pub ascending : List Float → Bool
ascending [] = true
ascending (k ∷ []) = true
ascending (k ∷ l ∷ ks) = le k l && ascending (l ∷ ks)

-- each of the first list is below its fellow of the second
unfoldable pub pairwise_below : List Float → List Float → Bool
pairwise_below [] ls = true
pairwise_below (k ∷ ks) [] = true
pairwise_below (k ∷ ks) (l ∷ ls) = lt k l && pairwise_below ks ls

-- no m + 1 in a row are equal, where the knots ascend
abbrev pub multiplicity_at_most : ℕ → List Float → Bool
multiplicity_at_most m ks = pairwise_below ks (drop m ks)

-- the default limits of the source, its counts, and its knots
unfoldable pub accepted_knots : Axis → Bool
accepted_knots a =
    let p = a.degree in
    let n = a.controls in
    let ks = a.knots in
    leb n 100000
    && leb (length ks) 100034
    && ltb p n
    && eqb (length ks) (n + p + 1)
    && all_finite ks
    && ascending ks
    && multiplicity_at_most (p + 1) ks
    && lt (low a) (high a)
    && is_finite (knot a (n + p) ⊖ knot a 0)

-- the number of the refusal in 01's table, 0 for none
unfoldable pub refusal_of_knots : Axis → ℕ
refusal_of_knots a = cond (eqb a.degree 0 || ltb 16 a.degree) 5 (cond (accepted_knots a) 0 6)

-- ---- a parameter among the knots

-- u within four units in the last place of the end e, by the larger of e and the domain's width
unfoldable pub near : Float → Float → Float → Bool
near width u e = le (abs (u ⊖ e)) (4ε ⊗ Functions.max (abs e) width)

-- u itself inside of the domain from lo to hi, the end that it is near to, or nothing
unfoldable pub snapped : Float → Float → Float → Snapped
snapped lo hi u =
    cond (not (is_finite u)) Outside
    (cond (lt u lo) (cond (near (hi ⊖ lo) u lo) (At lo) Outside)
    (cond (lt hi u) (cond (near (hi ⊖ lo) u hi) (At hi) Outside)
    (At u)))

-- how many knots pass a test
unfoldable pub count : (Float → Bool) → List Float → ℕ
count f [] = zero
count f (k ∷ ks) = cond (f k) (suc (count f ks)) (count f ks)

-- a limit from the left: at the upper end always, and where it is asked for, but not at the lower end
unfoldable pub from_left : Axis → KnotSide → Float → Bool
from_left a Left u = eq u (high a) || ne u (low a)
from_left a Right u = eq u (high a)

-- The index of the knot that the span starts at: the last knot not above u, or below u from the left. One without width at an end gives way to the domain's first or last.
unfoldable pub span_at : Axis → KnotSide → Float → ℕ
span_at a side u =
    let before = cond (from_left a side u) (count (λ k. lt k u) a.knots) (count (λ k. le k u) a.knots) in
    max a.degree (min (before - 1) (a.controls - 1))
