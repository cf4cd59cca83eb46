-- `job_format::window_at` meets its contract: four numbers. Assumes nothing.
use Rattle.job_format.specs.Offsets.{window_at}
use Rattle.job_format.proofs.window_at.Goals as goal

pub returns : goal.returns
unfolding window_at
returns c = simp (c.number_at.ensures, c.number_at-2.ensures, c.number_at-3.ensures, c.number_at-4.ensures)
