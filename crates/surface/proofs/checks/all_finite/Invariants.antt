-- The loop's invariant: all are finite where those before i and those from i on are.
use mathlib.Core.Path.{◌≡◌}
use mathlib.Core.Bool.{◌&&◌}
use Prim.Native.Nat.{◌≤◌, ◌-◌}
use lib.ListN.{length, drop}
use Rattle.spline.specs.Knots.{all_finite}
use Rattle.surface.proofs.checks.all_finite.Given as goal

abbrev pub invariant-loop-i : goal.invariant-loop-i
invariant-loop-i l = (l.i ≤ length l.controls) × (l.i-end ≡ length l.controls) × (all_finite l.controls ≡ (l.all && all_finite (drop l.i l.controls)))

abbrev pub decreases-loop-i : goal.decreases-loop-i
decreases-loop-i l = length l.controls - l.i
