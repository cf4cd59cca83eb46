-- One name that opens every definition, those of the crates below too: a theorem that computes says `unfolding compute`.
use Rattle.grid.specs.Compute as Grid
use Rattle.price.specs.Compute as Price
use Rattle.shortlist.specs.Compute as Shortlist
use Rattle.seeds.specs.Grid.{seen, row_of, survey}
use Rattle.seeds.specs.Visits.{grid_of, point_of, points_of}
use Rattle.seeds.specs.Walk.{walked_of}

unfoldable pub compute : Unit {0}
unfolding Grid.compute Price.compute Shortlist.compute seen row_of survey grid_of point_of points_of walked_of
compute = tt
