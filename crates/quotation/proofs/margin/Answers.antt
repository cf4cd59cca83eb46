-- By the flag.
use native.Mathlib.Omega.{arith}
use Rattle.quotation.specs.Quote.{margin}
use Rattle.quotation.proofs.margin.Goals as goal

pub returns-then-hinted : goal.returns-then-hinted
unfolding margin
returns-then-hinted c = (rw c.if-hinted.true, omega arith)

pub returns : goal.returns
unfolding margin
returns c = (rw c.if-hinted.false, omega arith)
