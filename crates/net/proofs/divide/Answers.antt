-- A turn of the loop divides one number more.
use mathlib.Core.Path.{◌≡◌, ap}
use native.Mathlib.Nat.{zero-add}
use native.Mathlib.Omega.{arith}
use lib.Ieee.{Float}
use Rattle.float64.specs.Operators.{◌⊘◌}
use Rattle.net.proofs.SumSteps.{nothing_put, one-put}
use Rattle.net.proofs.divide.Goals as goal

pub loop-i-init : goal.loop-i-init
loop-i-init c = (omega arith, nothing_put _ _ c.requires.1)

pub loop-i-preserved : goal.loop-i-preserved
loop-i-preserved c =
    let l = c.loop-i in
    let most = c.args.most in
    (omega arith, rw zero-add at (one-put _ _ l.invariant.1 (omega arith) (ap (λ (x : Float). x ⊘ most) (l.invariant.1.beyond l.i (omega arith)))))

pub returns : goal.returns
returns c =
    let l = c.loop-i in
    let e : l.i ≡ c.args.count = omega arith in
    rw e at l.invariant.1
