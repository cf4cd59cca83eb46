-- `job::surfaces::queue_at` meets its contract: the terms are read at their places. Assumes nothing.
use Rattle.job_format.specs.Offsets.{terms_at}
use Rattle.job.proofs.surfaces.queue_at.Goals as goal

pub returns : goal.returns
unfolding terms_at
returns c = simp (c.number_at.ensures, c.word_at.ensures)
