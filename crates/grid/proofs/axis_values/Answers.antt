-- The parts put together, on an accepted axis.
use native.Mathlib.Omega.{arith}
use Rattle.spline.specs.Knots.{Axis, axis}
use Rattle.spline.specs.KnotLaws.{Accepted, accepted}
use Rattle.grid.specs.Axis.{start_of, end_of, inner_of, stride}
use Rattle.grid.proofs.AxisSteps.{few-kept, put-together}
use Rattle.grid.proofs.axis_values.Goals as goal

pub offset_bounds-knots-degree : goal.offset_bounds-knots-degree
offset_bounds-knots-degree c =
    let of : Axis = axis c.args.degree c.args.controls c.args.knots.now in
    let known : Accepted of = accepted of c.requires.0 in
    omega (arith, known)

pub bounds-knots-degree : goal.bounds-knots-degree
bounds-knots-degree c =
    let of : Axis = axis c.args.degree c.args.controls c.args.knots.now in
    let known : Accepted of = accepted of c.requires.0 in
    omega (arith, known)

pub offset_bounds-knots-controls : goal.offset_bounds-knots-controls
offset_bounds-knots-controls c =
    let of : Axis = axis c.args.degree c.args.controls c.args.knots.now in
    let known : Accepted of = accepted of c.requires.0 in
    omega (arith, known)

pub bounds-knots-controls : goal.bounds-knots-controls
bounds-knots-controls c =
    let of : Axis = axis c.args.degree c.args.controls c.args.knots.now in
    let known : Accepted of = accepted of c.requires.0 in
    omega (arith, known)

pub stride-step-requires : goal.stride-step-requires
stride-step-requires c =
    let of : Axis = axis c.args.degree c.args.controls c.args.knots.now in
    let known : Accepted of = accepted of c.requires.0 in
    omega (arith, known)

pub overflow_sub-step : goal.overflow_sub-step
unfolding stride
overflow_sub-step c = omega arith

pub thin-requires : goal.thin-requires
unfolding start_of inner_of
thin-requires c =
    let of : Axis = axis c.args.degree c.args.controls c.args.knots.now in
    let s = c in
    few-kept of _ _ _ _ _ s.start_of-start.ensures c.count_inner.ensures.0 c.stride-step.ensures

pub returns : goal.returns
unfolding start_of end_of inner_of
returns c =
    let of : Axis = axis c.args.degree c.args.controls c.args.knots.now in
    let t = c in
    let e = t in
    let s = e in
    let begun = s in
    (put-together of _ _ _ _ _ s.start_of-start.ensures t.count_inner.ensures.0 t.stride-step.ensures begun.requires.0 begun.requires.1 _ _ _ _ e.end_of-end.ensures c.thin.ensures.0 c.add_break-breaks.ensures.0 c.in_eighths.ensures.0, c.in_eighths.ensures.1)
