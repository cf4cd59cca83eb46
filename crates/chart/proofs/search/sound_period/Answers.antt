use Rattle.chart.specs.Chart.{sound_period}
use Rattle.chart.proofs.search.sound_period.Goals as goal

pub returns-in-Free : goal.returns-in-Free
unfolding sound_period
returns-in-Free c = simp c.in-Free.is

pub returns-in-Every : goal.returns-in-Every
unfolding sound_period
returns-in-Every c = simp (c.in-Every.is, c.is_finite.ensures)
