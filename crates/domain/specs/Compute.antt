-- One name that opens every definition, those of the crates below too: a theorem that computes says `unfolding compute`.
use Rattle.spline.specs.Compute as Spline
use Rattle.domain.specs.Intervals.{wrapped}
use Rattle.domain.specs.Flags.{shape_of}
use Rattle.domain.specs.Windows.{misfits_on, misfits, window_on, window_in}

unfoldable pub compute : Unit {0}
unfolding Spline.compute wrapped shape_of misfits_on misfits window_on window_in
compute = tt
