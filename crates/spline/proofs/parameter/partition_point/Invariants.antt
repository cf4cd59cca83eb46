-- The loop's invariant: the rank between `lo` and `hi` is that between `first` and `last`. The knot in the middle says on which side of it the rank lies.
use mathlib.Core.Path.{◌≡◌}
use Prim.Native.Nat.{◌-◌, ◌≤◌}
use Rattle.spline.specs.ParameterLaws.{rank}
use Rattle.spline.proofs.parameter.partition_point.Given as goal

abbrev pub invariant-loop-lo : goal.invariant-loop-lo
invariant-loop-lo l = (l.lo ≤ l.hi) × (l.hi ≤ l.last) × (rank l.left l.u l.knots l.first l.last ≡ rank l.left l.u l.knots l.lo l.hi)

abbrev pub decreases-loop-lo : goal.decreases-loop-lo
decreases-loop-lo l = l.hi - l.lo
