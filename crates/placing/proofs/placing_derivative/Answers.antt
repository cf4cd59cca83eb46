use mathlib.Core.Path.{ap, ◌∙◌}
use Rattle.lent.specs.FitLaws.{derivative-room}
use Rattle.laid.specs.Laid.{answer_of_components}
use Rattle.placing.specs.Boundary.{derives}
use Rattle.placing.specs.TakenLaws.{derived-taken}
use Rattle.placing.proofs.Steps.{shape-read, derived-by, took-components, unfit, fits}
use Rattle.placing.proofs.placing_derivative.Goals as goal

pub returns-then-not-fits_derivative : goal.returns-then-not-fits_derivative
unfolding derives
returns-then-not-fits_derivative c = let ro = c in unfit _ _ _ ro.fits_derivative.ensures (c.if-not-fits_derivative.true)

pub bounds-budget-0 : goal.bounds-budget-0
bounds-budget-0 c = let el = c in (derivative-room _ _ _ _ el.fits_derivative.ensures (el.if-not-fits_derivative.false)).0

pub lay_answer-requires : goal.lay_answer-requires
lay_answer-requires c =
    let an = c in
    let to = an in
    let el = to in
    let r = derivative-room _ _ _ _ el.fits_derivative.ensures (el.if-not-fits_derivative.false) in
    (r.0, r.1, took-components an.answer_of_components.ensures to.derivative-components.ensures (derived-taken _ _ _ _ _))

pub returns : goal.returns
unfolding derives
returns c =
    let la = c in
    let an = la in
    let to = an in
    let sh = to in
    let el = sh in
    fits _ _ _ el.fits_derivative.ensures (el.if-not-fits_derivative.false)
    (an.answer_of_components.ensures ∙ ap answer_of_components (derived-by _ _ _ _ (shape-read _ _ _ _ _ sh.shape_of-shape.ensures sh.window_from.ensures) _ _ _ _ to.derivative-components.ensures)) la.lay_answer.ensures
