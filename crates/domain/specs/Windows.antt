-- A window on the knot domain of both axes: when it is refused, and what it leaves of the domain. Definitions only.
use Rattle.std.specs.Prelude.{Bool, false, not, cond, ◌&&◌, ◌||◌, Float}
use Rattle.std.specs.Float.Ieee.{lt, eq}
use Rattle.float64.specs.Functions.{is_finite}
use Rattle.domain.specs.declared.Window.{Window}
use Rattle.domain.specs.declared.Window.TheVariants.{Whole, Within}
use Rattle.domain.specs.declared.Interval.{Interval}
use Rattle.domain.specs.declared.Domain.{Domain}

-- 02's check 24 of an axis: not finite, not rising or beyond the domain, or narrower than it on a periodic axis
unfoldable pub misfits_on : Interval → Float → Float → Bool
misfits_on i lo hi =
    not (is_finite lo) || not (is_finite hi) || not (lt lo hi) || lt lo i.low || lt i.high hi || (i.periodic && not (eq lo i.low && eq hi i.high))

unfoldable pub misfits : Window → Domain → Bool
misfits Whole d = false
misfits (Within a b c e) d = misfits_on d.u a b || misfits_on d.v c e

-- a periodic axis keeps its whole domain
unfoldable pub window_on : Interval → Float → Float → Interval
window_on i lo hi = record { low = cond i.periodic i.low lo; high = cond i.periodic i.high hi; periodic = i.periodic }

unfoldable pub window_in : Window → Domain → Domain
window_in Whole d = d
window_in (Within a b c e) d = record { u = window_on d.u a b; v = window_on d.v c e }
