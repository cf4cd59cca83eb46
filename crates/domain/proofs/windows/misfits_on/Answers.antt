-- The two tests that are calls, put in their places.
use Rattle.domain.specs.Windows.{misfits_on}
use Rattle.domain.proofs.windows.misfits_on.Goals as goal

pub returns : goal.returns
unfolding misfits_on
returns c =
    let calls = c in
    rw (calls.is_finite.ensures, calls.is_finite-2.ensures)
