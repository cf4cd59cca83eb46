-- The weights are divided twice: as they are gathered, and by the largest that was met.
use native.Mathlib.Omega.{arith}
use Rattle.net.specs.NetLaws.{patch-room}
use Rattle.net.proofs.SumSteps.{twice-divided}
use Rattle.net.proofs.weigh.Goals as goal

pub overflow_mul-u : goal.overflow_mul-u
overflow_mul-u c = omega (arith, patch-room c.requires.1)

pub divide-requires : goal.divide-requires
divide-requires c = (patch-room c.requires.1, c.scale_over-most.ensures.1.whole)

pub returns : goal.returns
returns c =
    let e = c.scale_over-most.ensures in
    twice-divided _ _ _ _ _ e.0 e.1 c.divide.ensures
