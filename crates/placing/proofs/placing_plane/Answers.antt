use mathlib.Core.Path.{ap, ◌∙◌}
use Rattle.lent.specs.FitLaws.{pair-room}
use Rattle.laid.specs.Laid.{answer_of_components}
use Rattle.placing.specs.Boundary.{locates}
use Rattle.placing.specs.TakenLaws.{placed-on-taken}
use Rattle.placing.proofs.Steps.{took-components, unfit, fits}
use Rattle.placing.proofs.placing_plane.Goals as goal

pub returns-then-not-roomy : goal.returns-then-not-roomy
unfolding locates
returns-then-not-roomy c = unfit _ _ _ c.roomy.ensures (c.if-not-roomy.true)

pub bounds-budget-0 : goal.bounds-budget-0
bounds-budget-0 c = let el = c in (pair-room _ _ el.roomy.ensures (el.if-not-roomy.false)).0

pub lay_answer-requires : goal.lay_answer-requires
lay_answer-requires c =
    let an = c in
    let to = an in
    let el = to in
    let r = pair-room _ _ el.roomy.ensures (el.if-not-roomy.false) in
    (r.0, r.1, took-components an.answer_of_components.ensures to.invert_plane-components.ensures (placed-on-taken _ _ _))

pub returns : goal.returns
unfolding locates
returns c =
    let la = c in
    let an = la in
    let to = an in
    let el = to in
    fits _ _ _ el.roomy.ensures (el.if-not-roomy.false) (an.answer_of_components.ensures ∙ ap answer_of_components to.invert_plane-components.ensures) la.lay_answer.ensures
