use Rattle.float64.proofs.RemainderOfBits.{missing_by}
use Rattle.float64.proofs.bits.missing.Goals as goal

pub overflow_sub-result : goal.overflow_sub-result
overflow_sub-result c = (missing_by _ _ c.from.ensures c.requires.0 c.requires.1).enough

pub returns : goal.returns
returns c = let m = missing_by _ _ c.from.ensures c.requires.0 c.requires.1 in (m.shift, m.full, m.short)
