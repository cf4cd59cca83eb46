-- The definition's own test.
use Rattle.newton.specs.Run.{clamp_into}
use Rattle.newton.proofs.round.clamp_into.Goals as goal

pub returns-then-i : goal.returns-then-i
unfolding clamp_into
returns-then-i c = simp c.if-i.true

pub returns : goal.returns
unfolding clamp_into
returns c = simp (c.clamp.ensures, c.if-i.false)
