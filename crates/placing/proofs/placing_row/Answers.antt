use Rattle.lent.specs.FitLaws.{row_room}
use Rattle.placing.specs.Boundary.{rows}
use Rattle.placing.proofs.Steps.{shape-read, rowed-by, row-unfit, row_fits}
use Rattle.placing.proofs.placing_row.Goals as goal

pub returns-then-not-fits_row : goal.returns-then-not-fits_row
unfolding rows
returns-then-not-fits_row c = let ro = c in row-unfit _ _ _ _ _ ro.fits_row.ensures (c.if-not-fits_row.true)

pub bounds-budget-0 : goal.bounds-budget-0
bounds-budget-0 c = let el = c in (row_room _ _ _ _ _ _ _ el.fits_row.ensures (el.if-not-fits_row.false)).0

pub lay_ended-requires : goal.lay_ended-requires
lay_ended-requires c = let el = c in row_room _ _ _ _ _ _ _ el.fits_row.ensures (el.if-not-fits_row.false)

pub returns : goal.returns
unfolding rows
returns c =
    let la = c in
    let to = la in
    let te = to in
    let sh = te in
    let el = sh in
    row_fits _ _ _ _ _ el.fits_row.ensures (el.if-not-fits_row.false) (rowed-by _ _ _ _ (shape-read _ _ _ _ _ sh.shape_of-shape.ensures sh.window_from.ensures) te.terms_of.ensures _ _ _ _) to.row-ended.ensures (la.lay_ended.ensures.value, (la.lay_ended.ensures.budget_after, la.lay_ended.ensures.index_after))
