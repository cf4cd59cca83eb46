-- Each turn raises the values by a degree.
use Prim.Native.Nat.{◌-◌, ◌≤◌}
use Rattle.basis.specs.Parts.{Row}
use Rattle.basis.proofs.Parts.{value}
use Rattle.basis.proofs.values.triangle_of_values.Given as goal

abbrev pub invariant-loop-d : goal.invariant-loop-d
invariant-loop-d l = (l.d ≤ l.to) × Row l.values (value l.knots l.start l.p l.u l.d)

abbrev pub decreases-loop-d : goal.decreases-loop-d
decreases-loop-d l = l.to - l.d
