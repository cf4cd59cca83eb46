-- The loop's invariant: all knots pass where those from i on do.
use Prim.Native.Nat.{◌≤◌, ◌-◌}
use mathlib.Core.Path.{◌≡◌}
use lib.ListN.{length, drop}
use Rattle.spline.specs.KnotLaws.{knots_fit}
use Rattle.spline.proofs.knots.knots_fit.Given as goal

abbrev pub invariant-loop-i : goal.invariant-loop-i
invariant-loop-i l = (l.i ≤ length l.knots) × (l.i-end ≡ length l.knots) × (knots_fit l.most l.knots ≡ knots_fit l.most (drop l.i l.knots))

abbrev pub decreases-loop-i : goal.decreases-loop-i
decreases-loop-i l = length l.knots - l.i
