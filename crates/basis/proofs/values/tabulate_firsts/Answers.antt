-- The values and first derivatives of the snapped parameter, or nothing.
use mathlib.Core.Path.{refl, sym, ap}
use native.Mathlib.Omega.{arith}
use Rattle.spline.specs.KnotLaws.{accepted}
use Rattle.basis.specs.Parts.{value_of, value_in, first_of, first_in, part_of, shown_part}
use Rattle.basis.proofs.Gathered.{nowhere}
use Rattle.basis.proofs.Parts.{spanned, shows}
use Rattle.basis.proofs.values.tabulate_firsts.Goals as goal

pub snap_on-requires : goal.snap_on-requires
snap_on-requires c = c.requires.0

pub returns-in_default : goal.returns-in_default
unfolding shown_part part_of
returns-in_default c =
    let e = nowhere _ _ _ _ c.snap_on.ensures c.in_default.is in
    record { values_after = sym (ap (part_of value_of) e); firsts_after = sym (ap (part_of first_of) e) }

pub first_at-start-requires : goal.first_at-start-requires
first_at-start-requires c = c.requires.0

pub overflow_sub-degree : goal.overflow_sub-degree
overflow_sub-degree c = let p = accepted _ c.requires.0 in omega arith

pub triangle_of_values-requires : goal.triangle_of_values-requires
triangle_of_values-requires c =
    let spans = c in
    let at = spans in
    let start = at in
    let p = accepted _ start.requires.0 in
    let b = spans.first_at-start.ensures in
    (omega arith, omega arith, omega arith, spanned _ start.requires.0 start.requires.1 _ _ _ at.snap_on.ensures _ at.in-At.is _ b.0, start.requires.2)

pub raise_both-requires : goal.raise_both-requires
raise_both-requires c =
    let spans = c in
    let at = spans in
    let start = at in
    let p = accepted _ start.requires.0 in
    let b = spans.first_at-start.ensures in (
      omega arith,
      omega arith,
      omega arith,
      spanned _ start.requires.0 start.requires.1 _ _ _ at.snap_on.ensures _ at.in-At.is _ b.0,
      c.triangle_of_values.ensures,
      start.requires.3,
    )

pub returns : goal.returns
returns c =
    let spans = c in
    let at = spans in
    let start = at in
    let values = c.raise_both.ensures.row in
    let firsts = c.raise_both.ensures.by_index in
    let p = accepted _ start.requires.0 in record { values_after = shows _ start.requires.0 start.requires.1 _ _ _ at.snap_on.ensures _ at.in-At.is _ spans.first_at-start.ensures.0 value_of value_in (λ x y z. refl) _ values.wide (λ k l. values.same k (omega arith)); firsts_after = shows _ start.requires.0 start.requires.1 _ _ _ at.snap_on.ensures _ at.in-At.is _ spans.first_at-start.ensures.0 first_of first_in (λ x y z. refl) _ firsts.1 firsts.0 }
