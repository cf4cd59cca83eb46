-- What is held, and then what `every` gives of the knots from i on, is the whole. A turn keeps a knot inside, skips one, or meets none.
use mathlib.Core.Path.{◌≡◌}
use mathlib.Core.List.{◌∷◌, ◌++◌}
use Prim.Native.Nat.{◌≤◌, ◌-◌}
use lib.ListN.{length, take, drop}
use Rattle.grid.specs.Axis.{every}
use Rattle.grid.specs.AxisLaws.{inner_within}
use Rattle.grid.proofs.AxisSteps.{ahead}
use Rattle.grid.proofs.thin.Given as goal

abbrev pub invariant-loop-i : goal.invariant-loop-i
invariant-loop-i l =
    (l.i ≤ length l.knots) × (l.i-end ≡ length l.knots) × (l.out.count ≡ length (take l.out.count l.out.at)) × (every l.skip 0 (l.start ∷ inner_within l.low l.high l.knots) ≡ take l.out.count l.out.at ++ every l.skip l.left (ahead l.low l.high l.last (drop l.i l.knots)))

abbrev pub decreases-loop-i : goal.decreases-loop-i
decreases-loop-i l = length l.knots - l.i
