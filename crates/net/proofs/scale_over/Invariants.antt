-- A turn of the loop takes the weights of one row more.
use mathlib.Core.Path.{◌≡◌}
use mathlib.Core.Bool.{false}
use Prim.Native.Nat.{◌+◌, ◌*◌, ◌-◌, ◌≤◌}
use lib.Ieee.{is_nan}
use Rattle.float64.specs.Operators.{0·}
use Rattle.float64.specs.Functions.{max}
use Rattle.net.specs.Sums.{turns, share_at}
use Rattle.net.specs.Net.{Holds}
use Rattle.net.proofs.scale_over.Given as goal

abbrev pub invariant-loop-i : goal.invariant-loop-i
invariant-loop-i l =
    (l.i ≤ l.i-end)
    × (l.most ≡ turns (λ i. turns (λ j w. max w (share_at l.weights l.scale ((l.row + i) * l.stride + l.column + j))) l.columns) l.i 0·)
    × (is_nan l.most ≡ false)
    × Holds l.i l.columns (λ i j. share_at l.weights l.scale ((l.row + i) * l.stride + l.column + j)) l.net

abbrev pub decreases-loop-i : goal.decreases-loop-i
decreases-loop-i l = l.i-end - l.i
