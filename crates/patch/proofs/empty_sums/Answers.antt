-- Each is the empty sum.

use Rattle.patch.proofs.empty_sums.Goals as goal

pub returns : goal.returns
returns c = rw c.empty_sum-s.ensures
