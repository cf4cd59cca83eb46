-- The definition's own test.
use Rattle.newton.specs.Run.{moved}
use Rattle.newton.proofs.round.moved.Goals as goal
use Rattle.newton.proofs.round.moved.Goals.{else-u-from-via-then-u-from+else-v-from, else-u-from-via-else-u-from}

pub returns-then-v-from : goal.returns-then-v-from
unfolding moved
returns-then-v-from c = simp (c.if-u-from.true, c.if-v-from.true)

pub returns : goal.returns
unfolding moved
returns c = elim c.else-u-from.branch [
  | else-u-from-via-then-u-from+else-v-from w ↦ simp (w.if-u-from.true, w.if-v-from.false)
  | else-u-from-via-else-u-from w ↦ simp w.if-u-from.false
]
