-- One name that opens every definition, those of the crates below too: a theorem that computes says `unfolding compute`.
use Rattle.basis.specs.Compute as Basis
use Rattle.vector3.specs.Compute as Vector3
use Rattle.patch.specs.Patch.{more, add_control, point_of, first_of, second_of, mixed_of, finite_sum, jet_of_sums, finite_seconds, quotients, finite_sums, rational, from_mark}

unfoldable pub compute : Unit {0}
unfolding Basis.compute Vector3.compute more add_control point_of first_of second_of mixed_of finite_sum jet_of_sums finite_seconds quotients finite_sums rational from_mark
compute = tt
