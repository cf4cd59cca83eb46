-- Each turn raises the rows by a degree; a column that is none stays so to the last.
use Prim.Native.Nat.{◌-◌, ◌≤◌}
use Rattle.basis.specs.Rows.{Columns}
use Rattle.basis.proofs.Rows.{E}
use Rattle.basis.proofs.triangle.Given as goal

abbrev pub invariant-loop-d : goal.invariant-loop-d
invariant-loop-d l = (l.d ≤ l.p) × Columns l.rows (E l.knots l.start l.p l.u l.d)

abbrev pub decreases-loop-d : goal.decreases-loop-d
decreases-loop-d l = l.p - l.d
