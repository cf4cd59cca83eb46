-- By what holds of knots that are accepted.
use Rattle.std.proofs.Common.{arith}
use Rattle.spline.specs.KnotLaws.{accepted}
use Rattle.vectors.proofs.splines.domain_of.Goals as goal

pub offset_bounds-knots-degree : goal.offset_bounds-knots-degree
offset_bounds-knots-degree c = let a = accepted _ c.requires in omega arith

pub bounds-knots-degree : goal.bounds-knots-degree
bounds-knots-degree c = let a = accepted _ c.requires in omega arith

pub offset_bounds-knots-controls : goal.offset_bounds-knots-controls
offset_bounds-knots-controls c = let a = accepted _ c.requires in omega arith

pub bounds-knots-controls : goal.bounds-knots-controls
bounds-knots-controls c = let a = accepted _ c.requires in omega arith

pub returns : goal.returns
returns c = let a = accepted _ c.requires in omega arith
