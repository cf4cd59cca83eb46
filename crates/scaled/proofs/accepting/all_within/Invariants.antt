-- The loop's invariant: those before i are within, where all tells so.
use mathlib.Core.Path.{◌≡◌}
use Prim.Native.Nat.{◌≤◌, ◌-◌}
use lib.ListN.{length}
use Rattle.scaled.proofs.AcceptSteps.{Told}
use Rattle.scaled.proofs.accepting.all_within.Given as goal

abbrev pub invariant-loop-i : goal.invariant-loop-i
invariant-loop-i l = (l.i ≤ length l.controls) × (l.i-end ≡ length l.controls) × Told l.controls l.i l.all

abbrev pub decreases-loop-i : goal.decreases-loop-i
decreases-loop-i l = length l.controls - l.i
