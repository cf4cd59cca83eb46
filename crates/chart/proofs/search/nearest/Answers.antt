use Rattle.chart.specs.Chart.{nearest_to}
use Rattle.chart.proofs.search.nearest.Goals as goal

pub returns : goal.returns
unfolding nearest_to
returns c = rw c.round.ensures
