-- The step's two cases.
use Rattle.newton.specs.Run.{plan_by, plan}
use Rattle.newton.proofs.round.plan_from.Goals as goal

pub returns-in_default : goal.returns-in_default
unfolding plan plan_by
returns-in_default c = simp (c.nudge.ensures, ← c.step_of.ensures, c.in_default.is)

pub returns : goal.returns
unfolding plan plan_by
returns c =
    let u = c in
    let known = u in
    simp (c.moved.ensures, c.clamp_into-2.ensures, u.clamp_into.ensures, ← known.step_of.ensures, known.in-By.is)
