use Rattle.laid.specs.Laid.{flag_of}
use Rattle.laid.proofs.ends.flag_of.Goals as goal

pub returns-in-Open : goal.returns-in-Open
unfolding flag_of
returns-in-Open c = simp c.in-Open.is

pub returns-in-Collapsed : goal.returns-in-Collapsed
unfolding flag_of
returns-in-Collapsed c = simp c.in-Collapsed.is
