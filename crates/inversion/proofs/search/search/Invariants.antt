-- The invariant: the steps of the whole are those that are left, with what is taken and kept so far.
use Prim.Native.Nat.{◌-◌, ◌≤◌}
use lib.ListN.{take}
use Rattle.price.specs.Price.{after}
use Rattle.surface.specs.Surface.{surface, evaluate_by}
use Rattle.inversion.specs.Inversion.{searched}
use Rattle.inversion.proofs.SearchSteps.{Stands}
use Rattle.inversion.proofs.search.search.Given as goal

abbrev pub invariant-loop-i : goal.invariant-loop-i
invariant-loop-i l =
    let d = l.accepted.window in
    let eval = evaluate_by (surface l.accepted.shape l.ku l.kv l.controls l.weights) l.accepted.largest in
    (l.i ≤ l.i-end) × Stands d l.mark eval (after l.initial.taken (searched d l.mark eval l.initial.best l.lead.again 1 (take l.i-end l.at))) l.at l.i-end l.budget l.lead.again l.taken l.best l.i

abbrev pub decreases-loop-i : goal.decreases-loop-i
decreases-loop-i l = l.i-end - l.i
