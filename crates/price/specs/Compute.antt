-- One name that opens every definition: a theorem that computes says `unfolding compute`.
use Rattle.price.specs.Price.{after, mapped, ◌then◌, spend}
use Rattle.price.specs.Evaluations.{unless_refused, until}

unfoldable pub compute : Unit {0}
unfolding after mapped ◌then◌ spend unless_refused until
compute = tt
