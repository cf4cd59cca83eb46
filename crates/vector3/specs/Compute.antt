-- One name that opens every definition, those of float64 too: a theorem that computes says `unfolding compute`.
use Rattle.float64.specs.Compute as Float64
use Rattle.vector3.specs.Vector3.{sub, dot, norm, distance, finite_vector}

unfoldable pub compute : Unit {0}
unfolding Float64.compute sub dot norm distance finite_vector
compute = tt
