-- 01's table of refusals, of the lines that a surface's checks answer, in its order, and 02's 24. Definitions only.
use Rattle.std.specs.Prelude.{◌≡◌, true, false, ◌&&◌, ◌⊎◌, List, ℕ, ◌+◌, ◌*◌, ◌<◌, length, get_or, Float}
use Rattle.std.specs.Float.{nan}
use Rattle.std.specs.Float.Ieee.{lt, eq}
use Rattle.float64.specs.Operators.{◌⊘◌, 0·}
use Rattle.float64.specs.Functions.{is_finite}
use Rattle.spline.specs.Weights.{largest}
use Rattle.spline.specs.Knots.{Axis, accepted_knots}
use Rattle.domain.specs.declared.Window.{Window}
use Rattle.domain.specs.declared.Window.TheVariants.{Whole, Within}
use Rattle.domain.specs.declared.Interval.{Interval}
use Rattle.domain.specs.declared.Domain.{Domain}
use Rattle.surface.specs.Surface.{Surface, axis_u, axis_v, domain_of, total}

-- A line has a cause and a number, which is answered where the cause holds. Else the later lines say what is answered.
pub data Line (cause : Type 0) (number : ℕ) (later : ℕ → Type 0) : ℕ → Type 0 where
  this : cause → Line cause number later number
  next : {n : ℕ} → (cause → ⊥) → later n → Line cause number later n

-- after the last line
abbrev pub None : ℕ → Type 0
None n = n ≡ 0

abbrev pub TooLarge : Surface → Type 0
TooLarge s = (100000 < total s) ⊎ (100034 < length s.knots_u + length s.knots_v)

-- three coordinates a control
abbrev pub Miscounted : Surface → Type 0
Miscounted s = (length s.controls ≡ 3 * total s → ⊥) ⊎ (length s.weights ≡ total s → ⊥)

-- one of a list
abbrev pub Some : List Float → (Float → Type 0) → Type 0
Some xs P = (i : ℕ) × (i < length xs) × P (get_or xs i nan)

-- "Weight not finite, not above 0, or 0 after division by the largest; no weights"
abbrev pub Unweighed : List Float → Type 0
Unweighed ws = (length ws ≡ 0) ⊎ Some ws (λ w. (is_finite w && lt 0· w) ≡ false) ⊎ Some ws (λ w. eq (w ⊘ largest 0· ws) 0· ≡ true)

-- "5 and 6" for an axis
abbrev pub KnotLines : Axis → (ℕ → Type 0) → ℕ → Type 0
KnotLines a later = Line ((a.degree ≡ 0) ⊎ (16 < a.degree)) 5 (Line (accepted_knots a ≡ false) 6 later)

-- "window not finite, not rising or beyond the domain, or narrower than it on a periodic axis", of one axis
abbrev pub Misfit : Interval → Float → Float → Type 0
Misfit i lo hi =
    (is_finite lo ≡ false) ⊎ (is_finite hi ≡ false) ⊎ (lt lo hi ≡ false) ⊎ (lt lo i.low ≡ true) ⊎ (lt i.high hi ≡ true) ⊎ ((i.periodic ≡ true) × ((eq lo i.low && eq hi i.high) ≡ false))

abbrev pub Unwindowed : Window → Domain → Type 0
Unwindowed Whole d = ⊥
Unwindowed (Within a b c e) d = Misfit d.u a b ⊎ Misfit d.v c e

-- of the knots and the window
abbrev pub AxisLines : Surface → (ℕ → Type 0) → ℕ → Type 0
AxisLines s later = KnotLines (axis_u s) (KnotLines (axis_v s) (Line (Unwindowed s.shape.window (domain_of s)) 24 later))

-- "1, 2, 3, 4, then 5 and 6 for u, 5 and 6 for v", and 24 "after the surface checks and before the curve's and 7"
abbrev pub SurfaceLines : Surface → (ℕ → Type 0) → ℕ → Type 0
SurfaceLines s later =
    Line (TooLarge s) 1
    (Line (Miscounted s) 2
    (Line (Some s.controls (λ x. is_finite x ≡ false)) 3
    (Line (Unweighed s.weights) 4
    (KnotLines (axis_u s) (KnotLines (axis_v s) (Line (Unwindowed s.shape.window (domain_of s)) 24 later))))))
