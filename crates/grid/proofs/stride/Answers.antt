-- The stride, whose least is 1.
use native.Mathlib.Omega.{arith}
use Rattle.grid.specs.Axis.{stride}
use Rattle.grid.proofs.stride.Goals as goal

pub returns-then-n-lt1 : goal.returns-then-n-lt1
unfolding stride
returns-then-n-lt1 c = omega arith

pub returns : goal.returns
unfolding stride
returns c = omega arith
