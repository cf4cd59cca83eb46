-- The ends of the domain are knots.
use native.Mathlib.Omega.{arith}
use Rattle.spline.specs.KnotLaws.{accepted}
use Rattle.basis.proofs.snap_on.Goals as goal

pub offset_bounds-knots-degree : goal.offset_bounds-knots-degree
offset_bounds-knots-degree c = let p = accepted _ c.requires in omega arith

pub bounds-knots-degree : goal.bounds-knots-degree
bounds-knots-degree c = let p = accepted _ c.requires in omega arith

pub offset_bounds-knots-controls : goal.offset_bounds-knots-controls
offset_bounds-knots-controls c = let p = accepted _ c.requires in omega arith

pub bounds-knots-controls : goal.bounds-knots-controls
bounds-knots-controls c = let p = accepted _ c.requires in omega arith
