-- The loop's invariant: all samples are near where those from number i on are.
use mathlib.Core.Path.{refl}
use native.Mathlib.Omega.{arith}
use Rattle.edges.proofs.Steps.{stops, goes, over}
use Rattle.edges.proofs.side.all_near.Goals as goal

pub loop-i-init : goal.loop-i-init
loop-i-init c = (omega arith, refl)

pub returns-then-not-near : goal.returns-then-not-near
returns-then-not-near c =
    let at = c in
    let l = at.loop-i in
    stops _ _ _ _ l.i l.invariant.1 (omega (arith, at.loop-i-test.true)) c.jet_on-e.ensures c.near.ensures (c.if-not-near.true)

pub loop-i-preserved : goal.loop-i-preserved
loop-i-preserved c =
    let at = c in
    let l = at.loop-i in
    (omega arith, goes _ _ _ _ l.i l.invariant.1 (omega (arith, at.loop-i-test.true)) c.jet_on-e.ensures c.near.ensures (c.if-not-near.false))

pub returns : goal.returns
returns c = let l = c.loop-i in over _ _ _ _ l.i l.invariant.1 (omega arith)
