-- One name that opens every definition, those of the crates below too: a theorem that computes says `unfolding compute`.
use Rattle.domain.specs.Compute as Domain
use Rattle.grid.specs.Axis.{filter, distinct_from, distinct, every, first_equal, start_of, end_of, inner_of, breaks_of, stride, thinned, eighths, between, values_of}

unfoldable pub compute : Unit {0}
unfolding Domain.compute filter distinct_from distinct every first_equal start_of end_of inner_of breaks_of stride thinned eighths between values_of
compute = tt
