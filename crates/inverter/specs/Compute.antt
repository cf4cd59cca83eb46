-- One name that opens every definition, those of the crates below too: a theorem that computes says `unfolding compute`.
use Rattle.chart.specs.Compute as Chart
use Rattle.inverter.specs.Inverter.{on_checked, placed, charged, number_of, left_of}
use Rattle.inverter.specs.Plane.{sound_plane, local_of, placed_on}
use Rattle.inverter.specs.Preimage.{resolved, moved, moved_from, derived}

unfoldable pub compute : Unit {0}
unfolding Chart.compute on_checked placed charged number_of left_of sound_plane local_of placed_on resolved moved moved_from derived
compute = tt
