-- One name that opens every definition, those of the crates below too: a theorem that computes says `unfolding compute`.
use Rattle.net.specs.Compute as Net
use Rattle.surface.specs.Surface.{or_else, too_large, miscounted, refusal_of_surface, judged, checked, sums, blended, evaluate_by, or_nine, evaluated_by, evaluated, number_of_checked, number_of}

unfoldable pub compute : Unit {0}
unfolding Net.compute or_else too_large miscounted refusal_of_surface judged checked sums blended evaluate_by or_nine evaluated_by evaluated number_of_checked number_of
compute = tt
