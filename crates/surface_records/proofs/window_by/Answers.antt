-- `surface_records::window_by` meets its contract, by the count of its numbers. Assumes nothing.
use borrow.Author.Tests.{eq-eqb, ne_eqb}
use Rattle.surface_records.specs.Surfaces.{window_by}
use Rattle.surface_records.proofs.window_by.Goals as goal

pub returns-then-part-from-ne4 : goal.returns-then-part-from-ne4
unfolding window_by
returns-then-part-from-ne4 c = simp (ne_eqb _ 4 c.if-part-from-ne4.true)

pub returns : goal.returns
unfolding window_by
returns c =
    let third = c in
    let second = third in
    let first = second in
    simp (eq-eqb _ 4 first.if-part-from-ne4.false, first.float.ensures, second.float-2.ensures, third.float-3.ensures, c.float-4.ensures)
