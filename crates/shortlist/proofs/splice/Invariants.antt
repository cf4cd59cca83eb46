-- The loop's invariant: the whole is what is carried put in at k.
use mathlib.Core.Path.{◌≡◌}
use Prim.Native.Nat.{◌≤◌, ◌-◌}
use lib.ListN.{length, take}
use Rattle.shortlist.specs.Insert.{spliced}
use Rattle.shortlist.proofs.splice.Given as goal

abbrev pub invariant-loop-k : goal.invariant-loop-k
invariant-loop-k l =
    (l.i ≤ l.k) × (l.k ≤ l.count) × (length l.out ≡ 6) × (spliced l.i l.initial.carry (take l.count l.initial.out) ≡ spliced l.k l.carry (take l.count l.out))

abbrev pub decreases-loop-k : goal.decreases-loop-k
decreases-loop-k l = l.count - l.k
