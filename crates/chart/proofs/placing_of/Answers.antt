use Rattle.chart.specs.Chart.{placing_of}
use Rattle.chart.proofs.placing_of.Goals as goal

pub returns-in-Chosen : goal.returns-in-Chosen
unfolding placing_of
returns-in-Chosen c = simp (c.in-Chosen.is, c.turned.ensures)

pub returns-in-Refused : goal.returns-in-Refused
unfolding placing_of
returns-in-Refused c = simp c.in-Refused.is

pub returns-in-Spent : goal.returns-in-Spent
unfolding placing_of
returns-in-Spent c = simp c.in-Spent.is
