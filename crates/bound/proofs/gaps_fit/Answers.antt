-- The loop's invariant: all gaps fit where those before i and those from i on do.
use mathlib.Core.Path.{refl}
use native.Mathlib.Omega.{arith}
use Rattle.bound.specs.BoundLaws.{gaps-more, gaps-all}
use Rattle.bound.proofs.gaps_fit.Goals as goal

pub loop-i-init : goal.loop-i-init
loop-i-init c = (omega arith, omega arith, refl)

pub loop-i-preserved : goal.loop-i-preserved
loop-i-preserved c = let l = c.loop-i in (omega arith, omega arith, gaps-more _ l.i l.all l.invariant.2 (omega arith))

pub returns : goal.returns
returns c = let l = c.loop-i in gaps-all _ l.i l.all l.invariant.2 (omega arith)
