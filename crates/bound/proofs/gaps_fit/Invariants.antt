-- The loop's invariant: all gaps fit where those before i and those from i on do.
use mathlib.Core.Path.{◌≡◌}
use mathlib.Core.Bool.{◌&&◌}
use Prim.Native.Nat.{◌+◌, ◌≤◌, ◌-◌}
use lib.ListN.{length, drop}
use Rattle.bound.specs.BoundLaws.{gaps_fit}
use Rattle.bound.proofs.gaps_fit.Given as goal

abbrev pub invariant-loop-i : goal.invariant-loop-i
invariant-loop-i l = (l.i + 1 ≤ length l.knots) × (l.i-end + 1 ≡ length l.knots) × (gaps_fit l.knots ≡ (l.all && gaps_fit (drop l.i l.knots)))

abbrev pub decreases-loop-i : goal.decreases-loop-i
decreases-loop-i l = length l.knots - l.i
