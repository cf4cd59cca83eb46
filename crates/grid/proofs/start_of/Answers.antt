-- The two answers of the test.
use Rattle.grid.proofs.start_of.Goals as goal

pub returns-then-low-domain : goal.returns-then-low-domain
returns-then-low-domain c = rw c.if-low-domain.true c.first_equal.ensures

pub returns : goal.returns
returns c = rw c.if-low-domain.false
