-- A turn of the loop takes one weight more.
use mathlib.Core.Path.{◌≡◌, refl, sym, ◌∙◌}
use native.Mathlib.Omega.{arith}
use Rattle.float64.specs.Order.{max-larger, larger-number}
use Rattle.net.proofs.SumSteps.{no-turn, one-turn, nothing_put, one-put}
use Rattle.net.proofs.scale_along.Goals as goal

pub loop-j-init : goal.loop-j-init
loop-j-init c = (omega arith, no-turn _ _, c.requires.3, nothing_put _ _ c.requires.2)

pub loop-j-preserved : goal.loop-j-preserved
loop-j-preserved c =
    let l = c.loop-j in
    (omega arith, one-turn _ l.j _ l.invariant.1 (c.larger-most.ensures ∙ sym (max-larger _ _ l.invariant.2)), rw c.larger-most.ensures (larger-number _ _ l.invariant.2), one-put _ _ l.invariant.3 (omega arith) refl)

pub returns : goal.returns
returns c =
    let l = c.loop-j in
    let e : l.j ≡ c.args.count = omega arith in
    record { value = (rw e at l.invariant.1, l.invariant.2); put = rw e at l.invariant.3 }
