-- A turn of the loop divides one number more.
use Prim.Native.Nat.{◌-◌, ◌≤◌}
use lib.ListN.{get_or}
use lib.Ieee.{nan}
use Rattle.float64.specs.Operators.{◌⊘◌}
use Rattle.net.specs.Net.{Put}
use Rattle.net.proofs.divide.Given as goal

abbrev pub invariant-loop-i : goal.invariant-loop-i
invariant-loop-i l = (l.i ≤ l.count) × Put (λ q. get_or l.initial.net q nan ⊘ l.most) 0 l.i l.initial.net l.net

abbrev pub decreases-loop-i : goal.decreases-loop-i
decreases-loop-i l = l.count - l.i
