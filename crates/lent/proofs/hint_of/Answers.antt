use Rattle.lent.proofs.Steps.{no-hint, a-hint}
use Rattle.lent.proofs.hint_of.Goals as goal

pub returns-then-hint-ne2 : goal.returns-then-hint-ne2
returns-then-hint-ne2 c = no-hint _ c.if-hint-ne2.true

pub returns : goal.returns
returns c = a-hint _ c.if-hint-ne2.false
