-- The knots from i on give what all of them give.
use mathlib.Core.Path.{◌≡◌}
use Prim.Native.Nat.{◌≤◌, ◌-◌}
use lib.ListN.{length, drop}
use Rattle.grid.specs.Axis.{first_equal}
use Rattle.grid.proofs.first_equal.Given as goal

abbrev pub invariant-loop-i : goal.invariant-loop-i
invariant-loop-i l = (l.i ≤ length l.knots) × (l.i-end ≡ length l.knots) × (first_equal l.x l.knots ≡ first_equal l.x (drop l.i l.knots))

abbrev pub decreases-loop-i : goal.decreases-loop-i
decreases-loop-i l = length l.knots - l.i
