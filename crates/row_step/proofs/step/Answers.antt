-- What `invert_checked` says, and the budget that is left.
use mathlib.Core.Path.{ap}
use Rattle.chart.specs.Chart.{taken_of}
use Rattle.row_step.proofs.Steps.{took, step-refuses, step-places}
use Rattle.row_step.proofs.step.Goals as goal

pub invert_checked-requires : goal.invert_checked-requires
invert_checked-requires c = c.requires

pub overflow_sub-result : goal.overflow_sub-result
overflow_sub-result c =
    let to = c in
    took _ _ c.args.progress c.requires.checked to.invert_checked.ensures (ap taken_of c.in-Refusal.is)

pub overflow_sub-result-in-Pair : goal.overflow_sub-result-in-Pair
overflow_sub-result-in-Pair c =
    let to = c in
    took _ _ c.args.progress c.requires.checked to.invert_checked.ensures (ap taken_of c.in-Pair.is)

pub returns-in-Refusal : goal.returns-in-Refusal
returns-in-Refusal c =
    let to = c in
    step-refuses _ _ c.args.progress c.requires.checked to.invert_checked.ensures c.in-Refusal.is

pub returns-in-Pair : goal.returns-in-Pair
returns-in-Pair c =
    let to = c in
    step-places _ _ c.args.progress c.requires.checked to.invert_checked.ensures c.in-Pair.is c.led_by.ensures
