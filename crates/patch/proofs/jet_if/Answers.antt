-- By the test.

use Rattle.patch.proofs.jet_if.Goals as goal

pub returns-then-finite : goal.returns-then-finite
returns-then-finite c = rw c.if-finite.true

pub returns : goal.returns
returns c = rw c.if-finite.false
