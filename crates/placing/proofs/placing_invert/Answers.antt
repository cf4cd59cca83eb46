use Rattle.inverter.specs.PlacingLaws.{placed-sound}
use Rattle.lent.specs.FitLaws.{inversion-room}
use Rattle.placing.specs.Boundary.{inverts}
use Rattle.placing.proofs.Steps.{shape-read, placed_by, took-placing, inversion-unfit, inversion-fits}
use Rattle.placing.proofs.placing_invert.Goals as goal

pub returns-then-not-fits_inversion : goal.returns-then-not-fits_inversion
unfolding inverts
returns-then-not-fits_inversion c = let ro = c in inversion-unfit _ _ _ _ ro.fits_inversion.ensures (c.if-not-fits_inversion.true)

pub bounds-budget-0 : goal.bounds-budget-0
bounds-budget-0 c = let el = c in (inversion-room _ _ _ _ _ _ _ _ el.fits_inversion.ensures (el.if-not-fits_inversion.false)).0

pub lay_end-requires : goal.lay_end-requires
lay_end-requires c =
    let el = c in
    (inversion-room _ _ _ _ _ _ _ _ el.fits_inversion.ensures (el.if-not-fits_inversion.false)).2

pub lay_answer-requires : goal.lay_answer-requires
lay_answer-requires c =
    let an = c in
    let to = an in
    let el = to in
    let r = inversion-room _ _ _ _ _ _ _ _ el.fits_inversion.ensures (el.if-not-fits_inversion.false) in
    (r.0, r.1, took-placing an.answer_of_placing.ensures to.invert-placing.ensures.value (placed-sound _ _ _ _).0)

pub returns : goal.returns
unfolding inverts
returns c =
    let la = c in
    let an = la in
    let en = an in
    let to = en in
    let te = to in
    let sh = te in
    let el = sh in
    inversion-fits _ _ _ _ el.fits_inversion.ensures (el.if-not-fits_inversion.false)
    (placed_by _ _ _ _ (shape-read _ _ _ _ _ sh.shape_of-shape.ensures sh.window_from.ensures) te.terms_of-terms.ensures _ _ to.invert-placing.ensures.value) an.answer_of_placing.ensures en.lay_end.ensures la.lay_answer.ensures
