-- One name that opens every definition, those of the crates below too: a theorem that computes says `unfolding compute`.
use Rattle.vector3.specs.Compute as Vector3
use Rattle.shortlist.specs.FirstSix.{insert, sorted, apart_from, apart, starts_of}
use Rattle.shortlist.specs.Insert.{insert_unique, kept, kept_from, place_in}

unfoldable pub compute : Unit {0}
unfolding Vector3.compute insert sorted apart_from apart starts_of insert_unique kept kept_from place_in
compute = tt
