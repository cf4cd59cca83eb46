-- Each turn writes a value of the next degree, and carries the terms of the column after it.
use Prim.Native.Nat.{◌+◌, ◌-◌, ◌≤◌}
use Rattle.basis.specs.Parts.{Row}
use Rattle.basis.proofs.Rows.{till}
use Rattle.basis.proofs.Zeros.{Stands}
use Rattle.basis.proofs.Parts.{value, term}
use Rattle.basis.proofs.values.raise_values.Given as goal

abbrev pub invariant-loop-j : goal.invariant-loop-j
invariant-loop-j l =
    (l.p - (l.d + 1) ≤ l.j) × (l.j ≤ l.p) × Row l.values (till (value l.knots l.start l.p l.u (l.d + 1)) (value l.knots l.start l.p l.u l.d) l.j) × Stands (term l.knots l.start l.p l.u (l.d + 1) l.j l.values) l.a

abbrev pub decreases-loop-j : goal.decreases-loop-j
decreases-loop-j l = l.p - l.j
