-- The knot domain of an axis, and a parameter that is brought into it. Definitions only.
use Rattle.std.specs.Prelude.{Bool, not, cond, ◌&&◌, ◌||◌, List, ℕ, Float}
use Rattle.std.specs.Float.Ieee.{le}
use Rattle.float64.specs.Operators.{◌⊕◌, ◌⊖◌, ◌⊗◌, ◌⊘◌, 8·, of_nat}
use Rattle.float64.specs.Functions.{is_finite, clamp, rem_euclid}
use Rattle.spline.specs.Knots.{Axis, axis, low, high}
use Rattle.domain.specs.declared.Counts.{Counts}
use Rattle.domain.specs.declared.Interval.{Interval}
use Rattle.domain.specs.declared.Shape.{Shape}
use Rattle.domain.specs.declared.Domain.{Domain}

abbrev pub axis_of : Counts → List Float → Axis
axis_of n ks = axis n.degree n.controls ks

abbrev pub interval_of : Counts → List Float → Interval
interval_of n ks = let a = axis_of n ks in record { low = low a; high = high a; periodic = n.periodic }

-- of both axes
abbrev pub domain_on : Shape → List Float → List Float → Domain
domain_on shape ku kv = record { u = interval_of shape.u ku; v = interval_of shape.v kv }

-- a parameter on a periodic axis, brought into the domain from lo to hi
unfoldable pub wrapped : Bool → Float → Float → Float → Float
wrapped periodic lo hi t =
    cond (not periodic || not (is_finite t) || (le lo t && le t hi)) t
    (clamp (lo ⊕ rem_euclid (t ⊖ lo) (hi ⊖ lo)) lo hi)

abbrev pub wrapped_on : Interval → Float → Float
wrapped_on i t = wrapped i.periodic i.low i.high t

-- the i-th eighth from x to y
abbrev pub eighth_of : Float → Float → ℕ → Float
eighth_of x y i = x ⊕ (y ⊖ x) ⊗ of_nat i ⊘ 8·
