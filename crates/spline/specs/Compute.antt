-- One name that opens every definition, those of float64 too: a theorem that computes says `unfolding compute`.
use Rattle.float64.specs.Compute as Float64
use Rattle.spline.specs.Weights.{sound, largest, vanishing, is_empty, weighed, refusal_of}
use Rattle.spline.specs.Knots.{all_finite, ascending, pairwise_below, accepted_knots, refusal_of_knots, near, snapped, count, from_left, span_at}

unfoldable pub compute : Unit {0}
unfolding Float64.compute sound largest vanishing is_empty weighed refusal_of all_finite ascending pairwise_below accepted_knots refusal_of_knots near snapped count from_left span_at
compute = tt
