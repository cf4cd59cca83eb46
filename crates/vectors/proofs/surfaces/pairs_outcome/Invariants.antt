-- No count is above the number of pairs passed.
use Rattle.std.proofs.Common.{◌≤◌}
use Rattle.vectors.proofs.surfaces.pairs_outcome.Given as goal

abbrev pub invariant-loop-i : goal.invariant-loop-i
invariant-loop-i l = record { agree : l.agree ≤ l.i; differ : l.differ ≤ l.i }
