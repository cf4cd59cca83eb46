-- What is written, and then the eighths from the j-th on, is the whole.
use mathlib.Core.Path.{◌≡◌}
use mathlib.Core.List.{◌++◌}
use Prim.Native.Nat.{◌≤◌, ◌+◌, ◌-◌}
use lib.ListN.{length, take}
use Rattle.grid.specs.Axis.{eighths}
use Rattle.grid.proofs.put_eighths.Given as goal

abbrev pub invariant-loop-j : goal.invariant-loop-j
invariant-loop-j l =
    (l.j ≤ 8) × (length l.at ≡ 193) × (take l.n l.initial.at ++ eighths 8 0 l.x l.y ≡ take (l.n + l.j) l.at ++ eighths (8 - l.j) l.j l.x l.y)

abbrev pub decreases-loop-j : goal.decreases-loop-j
decreases-loop-j l = 8 - l.j
