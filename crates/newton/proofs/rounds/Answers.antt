-- The invariant: the rounds are those that are left from here, with a unit paid for each evaluation.
use mathlib.Core.Path.{refl}
use native.Mathlib.Omega.{arith}
use Rattle.newton.proofs.RoundSteps.{full, ended, goes}
use Rattle.newton.proofs.rounds.Goals as goal

pub loop-taken-init : goal.loop-taken-init
loop-taken-init c =
    let from = c in
    (omega arith, from.requires.1, from.requires.2, refl)

pub round-requires : goal.round-requires
round-requires c =
    let at = c in
    (at.requires.0, at.loop-taken.invariant.1, omega (arith, at.loop-taken.invariant.0, at.loop-taken.invariant.2, c.if-taken-eq33.false))

pub loop-taken-preserved : goal.loop-taken-preserved
loop-taken-preserved c =
    let to = c in
    let at = to in
    goes _ _ _ _ _ at.loop-taken.held _ at.loop-taken.invariant (omega (arith, at.loop-taken.invariant.0, to.if-taken-eq33.false)) to.round.ensures _ c.in-Onto.is

pub returns-then-taken-eq33 : goal.returns-then-taken-eq33
returns-then-taken-eq33 c =
    let at = c in
    full _ _ _ _ _ at.loop-taken.held _ at.loop-taken.invariant (omega (arith, c.if-taken-eq33.true)) c.ended.ensures

pub returns-in-Over : goal.returns-in-Over
returns-in-Over c =
    let to = c in
    let at = to in
    ended _ _ _ _ _ at.loop-taken.held _ at.loop-taken.invariant (omega (arith, at.loop-taken.invariant.0, to.if-taken-eq33.false)) to.round.ensures _ c.in-Over.is
