-- `job_format::decode` meets its contract. The invariant: the first i numbers are decoded, the others as they were. Assumes nothing.
use mathlib.Core.Path.{◌≡◌}
use mathlib.Core.List.{◌++◌}
use Prim.Native.Nat.{◌-◌, ◌≤◌}
use lib.ListN.{length, drop}
use Rattle.job_format.specs.Offsets.{floats_at}
use Rattle.job_format.proofs.decode.Given as goal

abbrev pub invariant-loop-i : goal.invariant-loop-i
invariant-loop-i l = (l.i ≤ l.count) × (length l.numbers ≡ length l.initial.numbers) × (l.numbers ≡ floats_at l.i l.bytes l.at ++ drop l.i l.initial.numbers)

abbrev pub decreases-loop-i : goal.decreases-loop-i
decreases-loop-i l = l.count - l.i
