-- Not known is 0, and known is one more than the start.
use native.Mathlib.Omega.{arith}
use borrow.Author.Tests.{not-false}
use Rattle.seeds.proofs.TableSteps.{known, start_fits}
use Rattle.seeds.proofs.table.first_of.Goals as goal

pub returns-then-not-bounded : goal.returns-then-not-bounded
returns-then-not-bounded c = λ i e. absurd (omega arith)

pub sample_values-place-requires : goal.sample_values-place-requires
sample_values-place-requires c =
    let arm = c in
    let pre = arm.requires in
    (pre.0, pre.1 (arm.if-not-bounded.false), pre.2)

pub returns-then-not-place : goal.returns-then-not-place
returns-then-not-place c = λ i e. absurd (omega arith)

pub overflow_add-result : goal.overflow_add-result
overflow_add-result c =
    let found = c in
    let at = found in
    omega (arith, start_fits _ _ _ at.sample_values-place.result _ (not-false _ found.if-not-place.false) at.sample_values-place.ensures at.requires.0)

pub returns : goal.returns
returns c =
    let found = c in
    let at = found in
    known _ _ _ at.sample_values-place.result _ (not-false _ found.if-not-place.false) at.sample_values-place.ensures (at.if-not-bounded.false)
