use Rattle.chart.specs.Chart.{turned_to}
use Rattle.chart.proofs.search.turned_to.Goals as goal

pub returns-in-Nothing : goal.returns-in-Nothing
unfolding turned_to
returns-in-Nothing c = simp c.in-Nothing.is

pub returns-in-At : goal.returns-in-At
unfolding turned_to
returns-in-At c = simp (c.in-At.is, c.shift.ensures, c.shift-in-At.ensures)
