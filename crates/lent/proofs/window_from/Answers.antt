use Rattle.lent.proofs.Steps.{no-window, a-window}
use Rattle.lent.proofs.window_from.Goals as goal

pub returns-then-window-ne4 : goal.returns-then-window-ne4
returns-then-window-ne4 c = no-window _ c.if-window-ne4.true

pub returns : goal.returns
returns c = a-window _ c.if-window-ne4.false
