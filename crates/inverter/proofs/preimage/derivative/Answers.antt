use mathlib.Core.Path.{sym, ◌∙◌}
use Rattle.surface.specs.SurfaceLaws.{checked-scale}
use Rattle.inverter.specs.Preimage.{derived}
use Rattle.inverter.proofs.Steps.{refused, passed, unsound, unpaid, paid}
use Rattle.inverter.proofs.preimage.derivative.Goals as goal

pub returns-then-not-finite_vector : goal.returns-then-not-finite_vector
unfolding derived
returns-then-not-finite_vector c =
    let tested = c in
    let known = tested in
    passed _ _ (sym known.check-checked.ensures ∙ known.in-Scale.is) (unsound tested.finite_vector.ensures _ _ (c.if-not-finite_vector.true))

pub returns-then-budget-eq0 : goal.returns-then-budget-eq0
unfolding derived
returns-then-budget-eq0 c =
    let tested = c in
    let known = tested in
    passed _ _ (sym known.check-checked.ensures ∙ known.in-Scale.is) (unpaid tested.finite_vector.ensures _ _ (c.if-not-finite_vector.false) c.if-budget-eq0.true)

pub moved_at-requires : goal.moved_at-requires
moved_at-requires c =
    let known = c in
    (checked-scale _ _ (sym known.check-checked.ensures ∙ known.in-Scale.is)).0

pub returns-else-budget-eq0 : goal.returns-else-budget-eq0
unfolding derived
returns-else-budget-eq0 c =
    let tested = c in
    let known = tested in
    passed _ _ (sym known.check-checked.ensures ∙ known.in-Scale.is)
    (paid tested.finite_vector.ensures _ _ (c.if-not-finite_vector.false) c.if-budget-eq0.false c.moved_at.ensures)

pub returns-in-Refusal : goal.returns-in-Refusal
unfolding derived
returns-in-Refusal c = refused _ _ (sym c.check-checked.ensures ∙ c.in-Refusal.is)
