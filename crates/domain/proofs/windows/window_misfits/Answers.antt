-- No window, or an axis after the other.
use Rattle.domain.specs.Windows.{misfits}
use Rattle.domain.proofs.windows.window_misfits.Goals as goal

pub returns-in-Whole : goal.returns-in-Whole
unfolding misfits
returns-in-Whole c = rw c.in-Whole.is

pub returns-in-Within : goal.returns-in-Within
unfolding misfits
returns-in-Within c =
    let told = c in
    rw (c.misfits_on.ensures, c.misfits_on-in-Within.ensures, told.domain_of-domain.ensures, told.in-Within.is)
