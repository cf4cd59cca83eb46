-- What `clamp_into` says of what `inward` says.
use Rattle.newton.specs.Run.{nudged}
use Rattle.newton.proofs.round.nudge.Goals as goal

pub returns-then-nudged : goal.returns-then-nudged
unfolding nudged
returns-then-nudged c = simp c.if-nudged.true

pub returns : goal.returns
unfolding nudged
returns c = simp (c.clamp_into-2.ensures, c.clamp_into.ensures, c.inward-v.ensures, c.inward-u.ensures, c.if-nudged.false)
