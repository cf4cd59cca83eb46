-- `job_format::mark_at` meets its contract: three numbers past the record's mark. Assumes nothing.
use Rattle.job_format.specs.Offsets.{mark_at}
use Rattle.job_format.proofs.mark_at.Goals as goal

pub returns : goal.returns
unfolding mark_at
returns c = simp (c.number_at.ensures, c.number_at-2.ensures, c.number_at-3.ensures)
