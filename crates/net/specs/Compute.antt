-- One name that opens every definition, those of the crates below too: a theorem that computes says `unfolding compute`.
use Rattle.patch.specs.Compute as Patch
use Rattle.domain.specs.Compute as Domain
use Rattle.net.specs.Sums.{turns, heaviest}
use Rattle.net.specs.Net.{sums_by, sum_by}

unfoldable pub compute : Unit {0}
unfolding Patch.compute Domain.compute turns heaviest sums_by sum_by
compute = tt
