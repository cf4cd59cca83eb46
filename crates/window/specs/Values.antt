-- The grid's values on the axes of a surface, which are those of its window. Definitions only.
use Rattle.std.specs.Prelude.{List, Float}
use Rattle.surface.specs.Surface.{Surface, axis_u, axis_v, window_of}
use Rattle.grid.specs.Axis.{values_of}

abbrev pub values_u : Surface → List Float
values_u s = let w = window_of s in values_of (axis_u s) w.u.low w.u.high

abbrev pub values_v : Surface → List Float
values_v s = let w = window_of s in values_of (axis_v s) w.v.low w.v.high
