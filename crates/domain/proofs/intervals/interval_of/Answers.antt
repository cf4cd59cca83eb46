-- An accepted axis has both knots.
use native.Mathlib.Omega.{arith}
use Rattle.spline.specs.Knots.{axis}
use Rattle.spline.specs.KnotLaws.{Accepted, accepted}
use Rattle.domain.proofs.intervals.interval_of.Goals as goal

pub offset_bounds-knots-degree : goal.offset_bounds-knots-degree
offset_bounds-knots-degree c =
    let known : Accepted (axis c.args.counts.degree c.args.counts.controls c.args.knots.now) = accepted _ c.requires in
    omega (arith, known)

pub bounds-knots-degree : goal.bounds-knots-degree
bounds-knots-degree c =
    let known : Accepted (axis c.args.counts.degree c.args.counts.controls c.args.knots.now) = accepted _ c.requires in
    omega (arith, known)

pub offset_bounds-knots-controls : goal.offset_bounds-knots-controls
offset_bounds-knots-controls c =
    let known : Accepted (axis c.args.counts.degree c.args.counts.controls c.args.knots.now) = accepted _ c.requires in
    omega (arith, known)

pub bounds-knots-controls : goal.bounds-knots-controls
bounds-knots-controls c =
    let known : Accepted (axis c.args.counts.degree c.args.counts.controls c.args.knots.now) = accepted _ c.requires in
    omega (arith, known)
