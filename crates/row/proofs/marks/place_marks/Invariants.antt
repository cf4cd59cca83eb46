-- The invariant: the row of all marks is that of the marks left, after what the buffers hold.
use mathlib.Core.Path.{◌≡◌}
use Prim.Native.Nat.{◌-◌, ◌*◌, ◌≤◌}
use lib.ListN.{length}
use Rattle.surface.specs.Surface.{surface}
use Rattle.row.specs.Row.{marks_of, in_turn}
use Rattle.row.proofs.Steps.{Stands, rest_from}
use Rattle.row.proofs.marks.place_marks.Given as goal

abbrev pub invariant-loop-i : goal.invariant-loop-i
invariant-loop-i l =
    let s = surface l.accepted.shape l.ku l.kv l.controls l.weights in
    (l.i ≤ l.i-end) × (length l.marks ≡ 3 * l.i-end) × (2 * l.i-end ≤ length l.answers) × (length l.answers ≡ length l.initial.answers) × (2 * l.i-end ≤ length l.ends) × (length l.ends ≡ length l.initial.ends)
    × Stands (in_turn s 0 (marks_of l.marks) l.initial.progress) l.initial.answers l.initial.ends l.i l.answers l.ends (rest_from s l.marks l.i l.progress)

abbrev pub decreases-loop-i : goal.decreases-loop-i
decreases-loop-i l = l.i-end - l.i
