-- Each turn writes a column of the next degree, and carries the terms of the column after it.
use mathlib.Core.Path.{◌≡◌}
use Prim.Native.Nat.{◌+◌, ◌-◌, ◌≤◌}
use Rattle.basis.specs.Rows.{Columns}
use Rattle.basis.proofs.Rows.{mid, terms}
use Rattle.basis.proofs.raise.Given as goal

abbrev pub invariant-loop-j : goal.invariant-loop-j
invariant-loop-j l =
    (l.p - (l.d + 1) ≤ l.j) × (l.j ≤ l.p + 1) × Columns l.rows (mid l.knots l.start l.p l.u l.d l.j) × (l.a ≡ terms l.knots l.start l.p l.u l.d l.j l.rows)

abbrev pub decreases-loop-j : goal.decreases-loop-j
decreases-loop-j l = l.p + 1 - l.j
