-- One name that opens every definition: a theorem that computes says `unfolding compute`.
use Rattle.std.specs.Float.Ieee.{add, sub, mul, div, rem, neg, lt, le, eq, ne, is_nan, round, size, of_bits}
use Rattle.float64.specs.Operators.{of_nat}
use Rattle.float64.specs.WholeRoot.{root_from, whole_root, nearest_root}
use Rattle.float64.specs.Functions.{is_finite, abs, max, clamp, root_of_units, root, round_away, rem_euclid}

unfoldable pub compute : Unit {0}
unfolding add sub mul div rem neg lt le eq ne is_nan round size of_bits of_nat root_from whole_root nearest_root is_finite abs max clamp root_of_units root round_away rem_euclid
compute = tt
