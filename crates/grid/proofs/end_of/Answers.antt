-- The two answers of the test.

use Rattle.grid.proofs.end_of.Goals as goal

pub returns-then-high-domain : goal.returns-then-high-domain
returns-then-high-domain c = rw c.if-high-domain.true

pub returns : goal.returns
returns c = rw c.if-high-domain.false
