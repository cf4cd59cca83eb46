use Rattle.std.proofs.Common.{◌∙◌, arith, lt_trans, mod-lt}
use Rattle.float64.proofs.RemainderOfBits.{turn, last}
use Rattle.float64.proofs.remainder.reduced.Goals as goal

pub loop-left-preserved : goal.loop-left-preserved
loop-left-preserved c = (lt_trans (mod-lt _ (omega arith)) (omega arith), turn _ _ _ (omega arith) ∙ c.loop-left.invariant.1)

pub returns : goal.returns
returns c = last _ _ _ (omega arith) (omega arith) ∙ c.loop-left.invariant.1
