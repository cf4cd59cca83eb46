-- Both invariants say what holds between two evaluations, and that what the whole comes to is what is left.
use mathlib.Core.Path.{◌≡◌}
use mathlib.Core.List.{List}
use Prim.Native.Nat.{ℕ, ◌-◌}
use lib.ListN.{length}
use lib.Ieee.{Float}
use Rattle.vector3.specs.declared.Vector3.{Vector3}
use Rattle.surface.specs.Surface.{surface, evaluate_by}
use Rattle.scaled.specs.declared.Accepted.{Accepted}
use Rattle.seeds.specs.Table.{NetFor}
use Rattle.seeds.proofs.WalkSteps.{Tour, AtRow, AtPoint}
use Rattle.seeds.proofs.survey.walk.Given as goal

abbrev pub tour : Accepted → (ku kv controls weights : List Float) → Vector3 → ℕ → (us vs : List Float) → (rows columns : ℕ) → Tour
tour accepted ku kv controls weights mark budget us vs rows columns = record {
  mark = mark;
  eval = evaluate_by (surface accepted.shape ku kv controls weights) accepted.largest;
  us = us;
  vs = vs;
  rows = rows;
  columns = columns;
  budget = budget;
}

abbrev pub invariant-loop-j : goal.invariant-loop-j
invariant-loop-j l =
    AtPoint (tour l.accepted l.ku l.kv l.controls l.weights l.mark l.budget l.u_at l.v_at l.rows l.columns) l.i l.j l.taken l.shortlist × NetFor l.accepted l.weights l.row l.weighed l.net

abbrev pub decreases-loop-j : goal.decreases-loop-j
decreases-loop-j l =
    l.columns - l.j

abbrev pub invariant-loop-i : goal.invariant-loop-i
invariant-loop-i l =
    AtRow (tour l.accepted l.ku l.kv l.controls l.weights l.mark l.budget l.u_at l.v_at l.rows l.columns) l.i l.taken l.shortlist × (length l.net ≡ 289)

abbrev pub decreases-loop-i : goal.decreases-loop-i
decreases-loop-i l =
    l.rows - l.i
