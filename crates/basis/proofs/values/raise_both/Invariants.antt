-- Each turn writes a value and a first derivative of the last degree, and carries the terms of the column after it.
use Prim.Native.Nat.{ℕ, ◌-◌, ◌≤◌}
use lib.ListN.{get_or}
use lib.Ieee.{nan}
use Rattle.basis.specs.Parts.{Row}
use Rattle.basis.proofs.Rows.{till}
use Rattle.basis.proofs.Zeros.{Stands}
use Rattle.basis.proofs.Parts.{value, slope, term}
use Rattle.basis.proofs.values.raise_both.Given as goal

abbrev pub invariant-loop-j : goal.invariant-loop-j
invariant-loop-j l =
    (l.j ≤ l.p) × Row l.values (till (value l.knots l.start l.p l.u l.p) (value l.knots l.start l.p l.u (l.p - 1)) l.j) × Row l.firsts (till (slope l.knots l.start l.p l.u l.p) (λ (k : ℕ). get_or l.initial.firsts k nan) l.j)
    × Stands (term l.knots l.start l.p l.u l.p l.j l.values) l.a

abbrev pub decreases-loop-j : goal.decreases-loop-j
decreases-loop-j l = l.p - l.j
