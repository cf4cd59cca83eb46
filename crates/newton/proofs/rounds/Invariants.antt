-- The invariant: the rounds are those that are left from here, with a unit paid for each evaluation.
use Prim.Native.Nat.{◌-◌}
use Rattle.surface.specs.Surface.{surface, evaluate_by}
use Rattle.newton.specs.Run.{rounds}
use Rattle.newton.proofs.RoundSteps.{Kept}
use Rattle.newton.proofs.rounds.Given as goal

abbrev pub invariant-loop-taken : goal.invariant-loop-taken
invariant-loop-taken l =
    let eval = evaluate_by (surface l.accepted.shape l.ku l.kv l.controls l.weights) l.accepted.largest in
    Kept l.accepted.window l.mark eval l.budget (rounds l.accepted.window l.mark eval 32 1 l.initial.held) l.held l.taken

abbrev pub decreases-loop-taken : goal.decreases-loop-taken
decreases-loop-taken l = 33 - l.taken
