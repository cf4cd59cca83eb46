-- The definition's own tests, in its order.
use Rattle.newton.specs.Run.{judge}
use Rattle.newton.proofs.round.judge.Goals as goal

pub returns-then-nudge : goal.returns-then-nudge
unfolding judge
returns-then-nudge c = simp c.if-nudge.true

pub returns-then-from-to : goal.returns-then-from-to
unfolding judge
returns-then-from-to c = simp (c.if-nudge.false, c.if-from-to.true)

pub returns-then-is_small_step : goal.returns-then-is_small_step
unfolding judge
returns-then-is_small_step c = simp (c.if-nudge.false, c.if-from-to.false, ← c.is_small_step.ensures, c.if-is_small_step.true)

pub returns : goal.returns
unfolding judge
returns c = simp (c.if-nudge.false, c.if-from-to.false, ← c.is_small_step.ensures, c.if-is_small_step.false)
