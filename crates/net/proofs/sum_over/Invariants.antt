-- A turn of the loop adds the controls of one row.
use mathlib.Core.Path.{◌≡◌}
use Prim.Native.Nat.{◌+◌, ◌*◌, ◌-◌, ◌≤◌}
use lib.ListN.{get_or}
use lib.Ieee.{nan}
use Rattle.patch.specs.Patch.{empty_sum}
use Rattle.net.specs.Sums.{turns, control_at}
use Rattle.net.specs.Net.{number_at, term}
use Rattle.net.proofs.sum_over.Given as goal

abbrev pub invariant-loop-i : goal.invariant-loop-i
invariant-loop-i l =
    (l.i ≤ l.i-end)
    × (l.sum ≡ turns (λ i. turns (λ j t. term (number_at l.u i) (number_at l.v j) (get_or l.net (i * l.columns + j) nan) (control_at l.controls ((l.row + i) * l.stride + l.column + j)) t) l.columns) l.i empty_sum)

abbrev pub decreases-loop-i : goal.decreases-loop-i
decreases-loop-i l = l.i-end - l.i
