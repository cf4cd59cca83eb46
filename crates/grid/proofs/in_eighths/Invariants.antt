-- What is written, and then the values between x and the breaks from i on, is the whole.
use mathlib.Core.Path.{◌≡◌}
use mathlib.Core.List.{◌∷◌, ◌++◌}
use Prim.Native.Nat.{◌≤◌, ◌+◌, ◌-◌, ◌*◌}
use lib.ListN.{length, take, drop}
use Rattle.grid.specs.Axis.{between}
use Rattle.grid.proofs.in_eighths.Given as goal

abbrev pub invariant-loop-i : goal.invariant-loop-i
invariant-loop-i l =
    (1 ≤ l.i) × (l.i ≤ l.count) × (length l.breaks ≡ 25) × (length l.at ≡ 193) × (l.n + 8 ≡ 8 * l.i) × (between (take l.count l.breaks) ≡ take l.n l.at ++ between (l.x ∷ drop l.i (take l.count l.breaks)))

abbrev pub decreases-loop-i : goal.decreases-loop-i
decreases-loop-i l = l.count - l.i
