-- What is written, and then the eighths from the j-th on, is the whole.
use native.Mathlib.Omega.{arith}
use lib.ListN.{length-set}
use Rattle.grid.proofs.AxisSteps.{eighths-begin, eighths-turn, eighths-over}
use Rattle.grid.proofs.put_eighths.Goals as goal

pub loop-j-init : goal.loop-j-init
loop-j-init c = (omega arith, c.requires.1, eighths-begin c.args.at.now c.args.n _ _)

pub loop-j-preserved : goal.loop-j-preserved
loop-j-preserved c =
    let l = c.loop-j in
    let a = c.args in
    (omega arith, simp length-set l.invariant.1, rw c.eighth.ensures (eighths-turn _ l.at a.n l.j a.x a.y l.invariant.2 (omega arith) (omega arith)))

pub returns : goal.returns
returns c =
    let l = c.loop-j in
    let a = c.args in
    (eighths-over _ l.at a.n l.j a.x a.y l.invariant.2 (omega arith), l.invariant.1)
