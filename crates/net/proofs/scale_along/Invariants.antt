-- A turn of the loop takes one weight more.
use mathlib.Core.Path.{◌≡◌}
use mathlib.Core.Bool.{false}
use Prim.Native.Nat.{◌+◌, ◌-◌, ◌≤◌}
use lib.Ieee.{is_nan}
use Rattle.float64.specs.Functions.{max}
use Rattle.net.specs.Sums.{turns, share_at}
use Rattle.net.specs.Net.{Put}
use Rattle.net.proofs.scale_along.Given as goal

abbrev pub invariant-loop-j : goal.invariant-loop-j
invariant-loop-j l =
    (l.j ≤ l.count)
    × (l.most ≡ turns (λ j w. max w (share_at l.weights l.scale (l.at + j))) l.j l.w)
    × (is_nan l.most ≡ false)
    × Put (λ j. share_at l.weights l.scale (l.at + j)) l.from l.j l.initial.net l.net

abbrev pub decreases-loop-j : goal.decreases-loop-j
decreases-loop-j l = l.count - l.j
