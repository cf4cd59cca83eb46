use Rattle.chart.specs.Chart.{sound_search}
use Rattle.chart.proofs.search.sound.Goals as goal

pub returns : goal.returns
unfolding sound_search
returns c = rw (c.finite_vector.ensures, c.sound_terms.ensures)
