use Prim.Native.Nat.{◌^◌}
use native.Mathlib.Omega.{arith}
use lib.Dec.{le→leb}
use lib.Ieee.{in_float, of_int}
use mathlib.Core.Path.{refl}
use Rattle.float64.specs.Operators.{of_nat}
use Rattle.domain.proofs.intervals.eighth.Goals as goal

pub int_to_float-result : goal.int_to_float-result
unfolding in_float
int_to_float-result c = le→leb c.args.i (2 ^ 53) (omega arith)

pub returns : goal.returns
unfolding of_int of_nat
returns c = refl
