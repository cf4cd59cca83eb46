-- By the two answers.
use Rattle.surface.specs.Surface.{or_nine}
use Rattle.surface.proofs.jets.or_nine.Goals as goal

pub returns-in-Found : goal.returns-in-Found
unfolding or_nine
returns-in-Found c = simp c.in-Found.is

pub returns-in-Refused : goal.returns-in-Refused
unfolding or_nine
returns-in-Refused c = simp c.in-Refused.is
