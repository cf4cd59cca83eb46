-- What `max` and `abs` say.
use Rattle.newton.specs.Run.{is_small_step}
use Rattle.newton.proofs.round.is_small_step.Goals as goal

pub returns : goal.returns
unfolding is_small_step
returns c =
    let near = c in
    simp (c.max.ensures, c.abs-2.ensures, near.abs.ensures, near.max-span.ensures)
