use Rattle.chart.specs.Chart.{sound_terms}
use Rattle.chart.proofs.search.sound_terms.Goals as goal

pub returns : goal.returns
unfolding sound_terms
returns c =
    let finite = c in
    rw (finite.sound_hint.ensures, finite.is_finite.ensures, c.sound_period.ensures, c.sound_period-2.ensures)
