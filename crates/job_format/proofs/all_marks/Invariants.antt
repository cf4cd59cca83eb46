-- `job_format::all_marks` meets its contract. The invariant: what a test of the records from number i on says of them, it says of all. Assumes nothing.
use mathlib.Core.Bool.{Bool}
use Prim.Native.Nat.{◌+◌, ◌-◌, ◌*◌, ◌≤◌}
use Rattle.job_format.specs.Format.{mark_size}
use Rattle.job_format.proofs.Steps.{MarksRead}
use Rattle.job_format.proofs.all_marks.Given as goal

abbrev pub invariant-loop-i : goal.invariant-loop-i
invariant-loop-i l = (l.i ≤ l.marks) × ((r : Bool) → MarksRead l.bytes (l.marks - l.i) (l.at + mark_size * l.i) r → MarksRead l.bytes l.marks l.at r)

abbrev pub decreases-loop-i : goal.decreases-loop-i
decreases-loop-i l = l.marks - l.i
