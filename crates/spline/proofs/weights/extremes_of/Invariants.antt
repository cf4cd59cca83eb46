-- The loop's invariant: what was found of the weights before 2 * i, of which each turn takes two.
use Prim.Native.Nat.{◌*◌, ◌/◌, ◌-◌, ◌≤◌}
use mathlib.Core.Path.{◌≡◌}
use lib.ListN.{length, drop}
use Rattle.spline.proofs.WeightSteps.{Passed}
use Rattle.spline.proofs.weights.extremes_of.Given as goal

abbrev pub invariant-loop-i : goal.invariant-loop-i
invariant-loop-i l =
    (l.i ≤ l.i-end) × (l.i-end ≡ l.count / 2) × (l.count ≡ length l.weights) × Passed l.weights (drop (2 * l.i) l.weights) l.found.above l.found.least l.found.most

abbrev pub decreases-loop-i : goal.decreases-loop-i
decreases-loop-i l = l.i-end - l.i
