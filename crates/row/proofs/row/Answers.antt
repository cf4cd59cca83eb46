use mathlib.Core.Path.{sym, ◌∙◌}
use Rattle.scaled.specs.Accepted.{by_shape}
use Rattle.row.proofs.Steps.{eleven, surface-refused, surface-passed}
use Rattle.row.proofs.row.Goals as goal

pub returns-then-misfit : goal.returns-then-misfit
returns-then-misfit c = eleven _ _ _ _ _ _ c.misfit.ensures c.if-misfit.true

pub row_checked-requires : goal.row_checked-requires
row_checked-requires c =
    let by = c in
    let to = by in
    (by_shape (rw by.in-Accepted.is at to.accept.ensures), sym to.misfit.ensures ∙ to.if-misfit.false)

pub returns-in-Refusal : goal.returns-in-Refusal
returns-in-Refusal c =
    let to = c in
    surface-refused _ _ _ _ _ _ to.misfit.ensures to.if-misfit.false (rw c.in-Refusal.is at to.accept.ensures)

pub returns-in-Accepted : goal.returns-in-Accepted
returns-in-Accepted c =
    let done = c in
    let by = done in
    let to = by in
    let known = rw by.in-Accepted.is at to.accept.ensures in
    surface-passed _ _ _ _ _ _ to.misfit.ensures to.if-misfit.false (rw known.shape at done.row_checked.ensures)
