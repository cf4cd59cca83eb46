-- One name that opens every definition, those of the crates below too: a theorem that computes says `unfolding compute`.
use Rattle.inversion.specs.Compute as Inversion
use Rattle.chart.specs.Chart.{sound_hint, sound_period, sound_terms, sound_search, nearest_to, shifted, turned_to, placing_of, placed_by, number_of, left_of}

unfoldable pub compute : Unit {0}
unfolding Inversion.compute sound_hint sound_period sound_terms sound_search nearest_to shifted turned_to placing_of placed_by number_of left_of
compute = tt
