-- A turn of the loop adds one control.
use mathlib.Core.Path.{◌≡◌}
use Prim.Native.Nat.{◌+◌, ◌-◌, ◌≤◌}
use lib.ListN.{get_or}
use lib.Ieee.{nan}
use Rattle.patch.specs.Patch.{add_control, three_of}
use Rattle.net.specs.Sums.{turns, control_at}
use Rattle.net.specs.Net.{three_at}
use Rattle.net.proofs.sums_along.Given as goal

abbrev pub invariant-loop-j : goal.invariant-loop-j
invariant-loop-j l =
    (l.j ≤ l.count) × (l.sums ≡ turns (λ j t. add_control (three_of l.a) (three_at l.v j) (get_or l.net (l.from + j) nan) (control_at l.controls (l.at + j)) t) l.j l.initial.sums)

abbrev pub decreases-loop-j : goal.decreases-loop-j
decreases-loop-j l = l.count - l.j
