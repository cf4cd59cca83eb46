use Rattle.chart.specs.Chart.{sound_hint}
use Rattle.chart.proofs.search.sound_hint.Goals as goal

pub returns-in-Nothing : goal.returns-in-Nothing
unfolding sound_hint
returns-in-Nothing c = simp c.in-Nothing.is

pub returns-in-At : goal.returns-in-At
unfolding sound_hint
returns-in-At c = simp (c.in-At.is, c.is_finite.ensures, c.is_finite-in-At.ensures)
