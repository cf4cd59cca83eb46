-- `job_format::is_mark` meets its contract. Assumes nothing.
use native.Mathlib.Omega.{arith}
use Rattle.job_format.proofs.Pieces.{mark-at}
use Rattle.job_format.proofs.is_mark.Goals as goal

pub returns : goal.returns
returns c = let a = c.args in mark-at a.bytes.now a.first a.second a.at (omega arith)
