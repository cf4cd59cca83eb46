use Rattle.lent.proofs.Steps.{no-period, a-period}
use Rattle.lent.proofs.period_of.Goals as goal

pub returns-then-period-ne1 : goal.returns-then-period-ne1
returns-then-period-ne1 c = no-period _ c.if-period-ne1.true

pub returns : goal.returns
returns c = a-period _ c.if-period-ne1.false
