-- The first check that refuses, or the next.
use mathlib.Core.Path.{sym, ◌∙◌}
use Rattle.surface.proofs.AxesSteps.{here, onward}
use Rattle.surface.proofs.axes.check_axes.Goals as goal

pub returns-then-refusal-ne0 : goal.returns-then-refusal-ne0
returns-then-refusal-ne0 c = here _ _ _ c.check_knots-refusal.ensures c.if-refusal-ne0.true

pub returns-then-refusal-ne0-2 : goal.returns-then-refusal-ne0-2
returns-then-refusal-ne0-2 c =
    let u = c in
    here _ _ _ c.check_knots-refusal-2.ensures c.if-refusal-ne0-2.true ∙ onward _ _ _ u.check_knots-refusal.ensures u.if-refusal-ne0.false

pub window_misfits-requires : goal.window_misfits-requires
window_misfits-requires c =
    let u = c in
    (sym u.check_knots-refusal.ensures ∙ u.if-refusal-ne0.false, sym c.check_knots-refusal-2.ensures ∙ c.if-refusal-ne0-2.false)

pub returns-then-window_misfits : goal.returns-then-window_misfits
returns-then-window_misfits c =
    let v = c in
    let u = v in
    rw (sym c.window_misfits.ensures ∙ c.if-window_misfits.true)
    (onward _ _ 24 v.check_knots-refusal-2.ensures v.if-refusal-ne0-2.false ∙ onward _ _ _ u.check_knots-refusal.ensures u.if-refusal-ne0.false)

pub returns : goal.returns
returns c =
    let v = c in
    let u = v in
    rw (sym c.window_misfits.ensures ∙ c.if-window_misfits.false)
    (onward _ _ 0 v.check_knots-refusal-2.ensures v.if-refusal-ne0-2.false ∙ onward _ _ _ u.check_knots-refusal.ensures u.if-refusal-ne0.false)
