-- A turn of the loop adds one control.
use mathlib.Core.Path.{◌≡◌}
use native.Mathlib.Omega.{arith}
use Rattle.net.proofs.SumSteps.{no-turn, one-turn}
use Rattle.net.proofs.sums_along.Goals as goal

pub loop-j-init : goal.loop-j-init
loop-j-init c = (omega arith, no-turn _ _)

pub loop-j-preserved : goal.loop-j-preserved
loop-j-preserved c =
    let l = c.loop-j in
    (omega arith, one-turn _ l.j _ l.invariant.1 (rw c.control.ensures at c.add_control-sums.ensures))

pub returns : goal.returns
returns c =
    let l = c.loop-j in
    let e : l.j ≡ c.args.count = omega arith in
    rw e at l.invariant.1
