-- The loop's invariant: all samples are near where those from number i on are.
use mathlib.Core.Path.{◌≡◌}
use Prim.Native.Nat.{◌≤◌, ◌-◌}
use Rattle.surface.specs.Surface.{surface, evaluate_by}
use Rattle.edges.specs.Edges.{all_near}
use Rattle.edges.proofs.Steps.{from}
use Rattle.edges.proofs.side.all_near.Given as goal

abbrev pub invariant-loop-i : goal.invariant-loop-i
invariant-loop-i l =
    let eval = evaluate_by (surface l.shape l.ku l.kv l.controls l.weights) l.scale in
    (l.i ≤ 9) × (all_near eval l.line l.tolerance l.point 9 0 ≡ from eval l.line l.tolerance l.point l.i)

abbrev pub decreases-loop-i : goal.decreases-loop-i
decreases-loop-i l = 9 - l.i
