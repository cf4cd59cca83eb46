-- The loop's invariant: what was found of the weights before 2 * i, of which each turn takes two.
use mathlib.Core.Path.{refl}
use native.Mathlib.Omega.{arith}
use lib.Ieee.{div, of_bits}
use Rattle.spline.proofs.WeightSteps.{begin, turn, even-end, odd-end}
use Rattle.spline.proofs.weights.extremes_of.Goals as goal

pub loop-i-init : goal.loop-i-init
unfolding div of_bits
loop-i-init c = (omega arith, refl, refl, begin _)

pub loop-i-preserved : goal.loop-i-preserved
loop-i-preserved c =
    let l = c.loop-i in
    (omega arith, refl, refl, turn _ l.i l.found.above l.found.least l.found.most l.invariant.3 (omega arith) c.with_pair-found.ensures)

pub returns-then-count-eq1 : goal.returns-then-count-eq1
returns-then-count-eq1 c =
    let l = c.loop-i in
    odd-end _ l.i l.found.above l.found.least l.found.most l.invariant.3 _ (omega arith) (omega arith) c.with_pair.ensures

pub returns : goal.returns
returns c =
    let l = c.loop-i in
    even-end _ l.i l.found.above l.found.least l.found.most l.invariant.3 (omega arith)
