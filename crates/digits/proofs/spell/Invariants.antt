-- `digits::spell` meets its contract. The invariant: all digits put are those that are left, put into the buffer as it is. Assumes nothing.
use mathlib.Core.Path.{◌≡◌}
use Prim.Native.Nat.{◌≤◌}
use lib.ListN.{length}
use Rattle.digits.specs.Text.{digits, written}
use Rattle.digits.proofs.spell.Given as goal

abbrev pub invariant-loop-i : goal.invariant-loop-i
invariant-loop-i l =
    (l.i ≤ l.k) × (length l.out ≡ length l.initial.out) × (written l.at (digits l.base l.k l.n) l.initial.out ≡ written l.at (digits l.base l.i l.rest) l.out)

abbrev pub decreases-loop-i : goal.decreases-loop-i
decreases-loop-i l = l.i
