-- One name that opens every definition, those of the crates below too: a theorem that computes says `unfolding compute`.
use Rattle.newton.specs.Compute as Newton
use Rattle.seeds.specs.Compute as Seeds
use Rattle.inversion.specs.Inversion.{numbered, nearer, nearest_of, led, choose, runs, searched, explored, unless_close, hinted, plain_steps, inversion_by, answer_of}
use Rattle.inversion.specs.Visits.{is_close, visits_of, search, planned, evaluations, evaluations_by}

unfoldable pub compute : Unit {0}
unfolding Newton.compute Seeds.compute numbered nearer nearest_of led choose runs searched explored unless_close hinted plain_steps inversion_by answer_of is_close visits_of search planned evaluations evaluations_by
compute = tt
