-- The count of the breaks, and their stride.
use mathlib.Core.Path.{ap}
use Prim.Native.Nat.{ℕ, ◌+◌}
use native.Mathlib.Omega.{arith}
use Rattle.grid.proofs.AxisSteps.{stride-fits, spans_fit, values-counted}
use Rattle.grid.proofs.count_values.Goals as goal

pub overflow_sub-result-2 : goal.overflow_sub-result-2
overflow_sub-result-2 c = omega (arith, stride-fits _ _ c.stride-step.ensures)

pub overflow_add-result : goal.overflow_add-result
overflow_add-result c = omega (arith, stride-fits _ _ c.stride-step.ensures)

pub nonzero_div-result : goal.nonzero_div-result
nonzero_div-result c = omega (arith, stride-fits _ _ c.stride-step.ensures)

pub overflow_mul-result : goal.overflow_mul-result
overflow_mul-result c = omega (arith, spans_fit _ _ c.stride-step.ensures)

pub overflow_add-result-2 : goal.overflow_add-result-2
overflow_add-result-2 c = omega (arith, spans_fit _ _ c.stride-step.ensures)

pub returns : goal.returns
returns c = values-counted _ _ c.stride-step.ensures _ (ap (λ (n : ℕ). n + 2) c.count_inner-count.ensures.0)
