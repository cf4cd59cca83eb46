use Rattle.row_step.proofs.Steps.{leads, leads-none}
use Rattle.row_step.proofs.led_by.Goals as goal

pub returns-then-within : goal.returns-then-within
returns-then-within c = leads _ _ c.within.ensures c.if-within.true c.with_hint.ensures

pub returns : goal.returns
returns c = leads-none _ _ c.within.ensures c.if-within.false c.with_hint-2.ensures
