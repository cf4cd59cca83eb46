-- The values before the j-th have their functions, and the rows of those after it are empty.
use Prim.Native.Nat.{◌-◌, ◌≤◌}
use Rattle.seeds.specs.Table.{Tabled}
use Rattle.seeds.proofs.TableSteps.{Blank}
use Rattle.seeds.proofs.table.fill_table.Given as goal

abbrev pub invariant-loop-j : goal.invariant-loop-j
invariant-loop-j l = (l.j ≤ l.count) × Tabled l.bounded l.counts l.knots l.at l.j l.table l.firsts × Blank l.table l.j

abbrev pub decreases-loop-j : goal.decreases-loop-j
decreases-loop-j l = l.count - l.j
