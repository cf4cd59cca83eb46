use Rattle.chart.proofs.search.turned.Goals as goal

pub returns : goal.returns
returns c = simp c.turned_to-at.ensures
