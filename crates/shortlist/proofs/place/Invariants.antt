-- The loop's invariant: the place is i and the place in what is left from i on.
use mathlib.Core.Path.{◌≡◌}
use Prim.Native.Nat.{◌≤◌, ◌+◌, ◌-◌}
use lib.ListN.{length, take, drop}
use Rattle.shortlist.specs.Insert.{place_in}
use Rattle.shortlist.proofs.place.Given as goal

abbrev pub invariant-loop-i : goal.invariant-loop-i
invariant-loop-i l = (l.i ≤ l.count) × (l.count ≤ length l.at) × (place_in l.d (take l.count l.at) ≡ l.i + place_in l.d (drop l.i (take l.count l.at)))

abbrev pub decreases-loop-i : goal.decreases-loop-i
decreases-loop-i l = l.count - l.i
