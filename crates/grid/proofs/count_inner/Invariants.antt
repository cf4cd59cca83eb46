-- The knots inside that are counted, and then those from i on, are all.
use mathlib.Core.Path.{◌≡◌}
use Prim.Native.Nat.{◌≤◌, ◌+◌, ◌-◌}
use lib.ListN.{length, drop}
use Rattle.grid.specs.AxisLaws.{inner_within}
use Rattle.grid.proofs.AxisSteps.{ahead}
use Rattle.grid.proofs.count_inner.Given as goal

abbrev pub invariant-loop-i : goal.invariant-loop-i
invariant-loop-i l =
    (l.i ≤ length l.knots) × (l.i-end ≡ length l.knots) × (l.count ≤ l.i) × (length (inner_within l.low l.high l.knots) ≡ l.count + length (ahead l.low l.high l.last (drop l.i l.knots)))

abbrev pub decreases-loop-i : goal.decreases-loop-i
decreases-loop-i l = length l.knots - l.i
