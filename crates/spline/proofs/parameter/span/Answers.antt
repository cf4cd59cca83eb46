-- The span is the rank less one.
use mathlib.Core.Path.{sym, ap, ◌∙◌}
use Prim.Native.Nat.{ℕ, ◌-◌}
use native.Mathlib.Omega.{arith}
use borrow.Author.Rules.{rules}
use Rattle.spline.specs.KnotLaws.{accepted, ascends}
use Rattle.spline.specs.ParameterLaws.{span-rank}
use Rattle.spline.proofs.parameter.span.Goals as goal

pub from_left-left-requires : goal.from_left-left-requires
from_left-left-requires c =
    let a = accepted _ c.requires in
    (omega arith, omega arith)

pub overflow_add-degree : goal.overflow_add-degree
overflow_add-degree c =
    let a = accepted _ c.requires in
    search rules

pub partition_point-requires : goal.partition_point-requires
partition_point-requires c =
    let a = accepted _ c.requires in
    (ascends a, omega arith, omega arith)

pub overflow_sub-result : goal.overflow_sub-result
overflow_sub-result c = omega (arith, c.partition_point.ensures)

pub returns : goal.returns
returns c = ap (λ (r : ℕ). r - 1) c.partition_point.ensures ∙ sym (span-rank _ _ _ _ c.from_left-left.ensures)
