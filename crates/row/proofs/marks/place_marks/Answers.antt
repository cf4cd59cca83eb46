-- The invariant: the row of all marks is that of the marks left, after what the buffers hold.
use mathlib.Core.Path.{refl, ◌∙◌}
use native.Mathlib.Omega.{arith}
use Rattle.row.specs.RowLaws.{fits}
use Rattle.row.proofs.Steps.{begins, over, goes, stops, kept-long}
use Rattle.row.proofs.marks.place_marks.Goals as goal

pub loop-i-init : goal.loop-i-init
loop-i-init c =
    let at = c in
    let f = fits _ _ _ at.requires.1 in
    (omega arith, f.threes, f.pairs, refl, f.ends, refl, begins _ _ _ _ _)

pub returns-in-Refusal : goal.returns-in-Refusal
returns-in-Refusal c =
    let to = c in
    let by = to in
    let at = by in
    let told = to.place_mark.ensures in
    stops _ _ _ _ _ _ _ at.loop-i.i _ at.loop-i.invariant.6 (omega arith) by.mark_at-mark.ensures told.value told.answers_after told.ends_after c.in-Refusal.is

pub loop-i-preserved : goal.loop-i-preserved
loop-i-preserved c =
    let to = c in
    let by = to in
    let at = by in
    let told = to.place_mark.ensures in
    let p = c.in-Placed.is in
    let i = at.loop-i.i in
    let inv = at.loop-i.invariant in
    let long = kept-long _ _ _ _ _ _ _ i _ inv.6 (omega arith) by.mark_at-mark.ensures told.value told.answers_after told.ends_after _ _ p (omega arith) (omega arith) in
    let on = goes _ _ _ _ _ _ _ i _ inv.6 (omega arith) by.mark_at-mark.ensures told.value told.answers_after told.ends_after _ _ p (omega arith) (omega arith) in
    (omega arith, inv.1, omega (arith, long.0), long.0 ∙ inv.3, omega (arith, long.1), long.1 ∙ inv.5, on)

pub returns : goal.returns
returns c =
    let at = c in
    over _ _ _ _ _ _ _ at.loop-i.i _ at.loop-i.invariant.6 (omega arith)
