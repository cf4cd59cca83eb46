-- `job::marks::print_marks` meets its contract. The invariant: whatever puts the lines from mark number i on puts all. Assumes nothing.
use mathlib.Core.Path.{◌≡◌}
use Prim.Native.Nat.{◌+◌, ◌-◌, ◌*◌, ◌≤◌}
use lib.ListN.{length}
use Rattle.surface.specs.Surface.{surface}
use Rattle.row.specs.Row.{in_turn}
use Rattle.row_step.specs.StepLaws.{Unshifted}
use Rattle.job_format.specs.Offsets.{marks_at}
use Rattle.job.specs.Printout.{row_lines}
use Rattle.job.proofs.Steps.{Rest, lines_from}
use Rattle.job.proofs.marks.print_marks.Given as goal

abbrev pub invariant-loop-i : goal.invariant-loop-i
invariant-loop-i l =
    let s = surface l.accepted.shape l.ku l.kv l.controls l.weights in
    (l.i ≤ l.i-end) × (l.at + 57 * (l.i-end - l.i + 1) ≤ length l.out) × (length l.out ≡ length l.initial.out) × Unshifted l.progress.terms
    × Rest l.from (row_lines (in_turn s 0 (marks_at l.i-end l.bytes l.first) l.initial.progress)) l.initial.out l.at (lines_from s l.bytes l.first l.i-end l.i l.progress) l.out

abbrev pub decreases-loop-i : goal.decreases-loop-i
decreases-loop-i l =
    l.i-end - l.i
