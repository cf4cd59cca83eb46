-- `job_format::number_at` meets its contract: the float of a word. Assumes nothing.
use mathlib.Core.Path.{ap, ◌∙◌}
use lib.Ieee.{binary64, of_bits}
use Rattle.job_format.specs.Offsets.{float_at}
use Rattle.job_format.proofs.number_at.Goals as goal

pub returns : goal.returns
unfolding float_at
returns c = c.float.ensures ∙ ap (of_bits binary64) c.word_at.ensures
