-- One name that opens every definition, those of the crates below too: a theorem that computes says `unfolding compute`.
use Rattle.surface.specs.Compute as Surface
use Rattle.price.specs.Compute as Price
use Rattle.newton.specs.Run.{solve, step_of, clamp_into, inward, is_small_step, nudged, moved, plan_by, plan, judge, follow, settle, weigh, pursue, round, rounds, started, finished, run, nudges_on, nudges_in, nudges_from, nudges, ending_number, outcome_of, turn_of}
use Rattle.newton.specs.Visits.{if_onward, visits_past, visits_on, visits_in, visits_from, visits}

unfoldable pub compute : Unit {0}
unfolding Surface.compute Price.compute solve step_of clamp_into inward is_small_step nudged moved plan_by plan judge follow settle weigh pursue round rounds started finished run nudges_on nudges_in nudges_from nudges ending_number outcome_of turn_of if_onward visits_past visits_on visits_in visits_from visits
compute = tt
