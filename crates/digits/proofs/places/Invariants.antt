-- `digits::places` meets its contract. The invariant: the digits counted so far and those of what is left are all. Assumes nothing.
use mathlib.Core.Path.{◌≡◌}
use Prim.Native.Nat.{suc, ◌+◌, ◌-◌, ◌^◌, ◌≤◌, ◌<◌}
use Rattle.digits.specs.Text.{places_in}
use Rattle.digits.proofs.places.Given as goal

abbrev pub invariant-loop-rest : goal.invariant-loop-rest
invariant-loop-rest l = (1 ≤ l.k) × (l.k ≤ 20) × (l.rest < 10 ^ suc (20 - l.k)) × (places_in 19 l.n ≡ (l.k - 1) + places_in (20 - l.k) l.rest)

abbrev pub decreases-loop-rest : goal.decreases-loop-rest
decreases-loop-rest l = 20 - l.k
