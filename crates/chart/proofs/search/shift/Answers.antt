use Rattle.chart.specs.Chart.{shifted}
use Rattle.chart.proofs.search.shift.Goals as goal

pub returns-in-Free : goal.returns-in-Free
unfolding shifted
returns-in-Free c = simp c.in-Free.is

pub returns-in-Every : goal.returns-in-Every
unfolding shifted
returns-in-Every c = simp (c.in-Every.is, c.nearest.ensures)
