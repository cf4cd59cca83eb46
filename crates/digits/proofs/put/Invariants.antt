-- `digits::put` meets its contract. The invariant: the whole text put is what is left of it put from here. Assumes nothing.
use mathlib.Core.Path.{◌≡◌}
use Prim.Native.Nat.{◌+◌, ◌-◌, ◌≤◌}
use lib.ListN.{length, drop}
use Rattle.digits.specs.Text.{written}
use Rattle.digits.proofs.put.Given as goal

abbrev pub invariant-loop-i : goal.invariant-loop-i
invariant-loop-i l =
    (l.i ≤ length l.text) × (l.i-end ≡ length l.text) × (length l.out ≡ length l.initial.out) × (written l.at l.text l.initial.out ≡ written (l.at + l.i) (drop l.i l.text) l.out)

abbrev pub decreases-loop-i : goal.decreases-loop-i
decreases-loop-i l = length l.text - l.i
