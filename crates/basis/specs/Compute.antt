-- One name that opens every definition, those of spline and float64 too: a theorem that computes says `unfolding compute`.
use Rattle.spline.specs.Compute as Spline
use Rattle.basis.specs.Basis.{checked, right, blend, N, row, finite_threes, joined, gathered, sample_at, basis_at, threes, shown}
use Rattle.basis.specs.Rows.{term_at, mix_of}

unfoldable pub compute : Unit {0}
unfolding Spline.compute checked right blend N row finite_threes joined gathered sample_at basis_at threes shown term_at mix_of
compute = tt
