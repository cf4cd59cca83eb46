-- The point by the values where both start and their weight sum is large enough, else that of the evaluation.
use mathlib.Core.Path.{ap, ◌∙◌}
use Prim.Native.Nat.{◌<◌}
use native.Mathlib.Omega.{arith}
use Rattle.surface.specs.Surface.{Surface, surface}
use Rattle.surface.specs.PatchLaws.{weights-lent, controls-lent}
use Rattle.scaled.specs.Accepted.{not-refused}
use Rattle.seeds.specs.Table.{located}
use Rattle.seeds.proofs.TableSteps.{both-start, unweighed, starting, found-there}
use Rattle.seeds.proofs.table.point_at.Goals as goal
use Rattle.seeds.proofs.table.point_at.Goals.{then-node+else-sum, else-node}

pub reweigh-requires : goal.reweigh-requires
reweigh-requires c =
    let of : Surface = surface c.args.accepted.shape c.args.ku.now c.args.kv.now c.args.controls.now c.args.weights.now in
    let both : (let n = c.args.node in (0 < n.row) × (0 < n.column)) = let n = c.args.node in both-start n.row n.column c.if-node.true in
    let a = c in
    (weights-lent of (not-refused a.requires.accepts), starting a.requires both, a.requires.weights)

pub overflow_sub-node : goal.overflow_sub-node
overflow_sub-node c =
    let both : (let n = c.args.node in (0 < n.row) × (0 < n.column)) = let n = c.args.node in both-start n.row n.column c.if-node.true in
    let z = both in omega arith

pub overflow_sub-node-then-node : goal.overflow_sub-node-then-node
overflow_sub-node-then-node c =
    let both : (let n = c.args.node in (0 < n.row) × (0 < n.column)) = let n = c.args.node in both-start n.row n.column c.if-node.true in
    let z = both in omega arith

pub sum_over-sum-requires : goal.sum_over-sum-requires
sum_over-sum-requires c =
    let of : Surface = surface c.args.accepted.shape c.args.ku.now c.args.kv.now c.args.controls.now c.args.weights.now in
    let both : (let n = c.args.node in (0 < n.row) × (0 < n.column)) = let n = c.args.node in both-start n.row n.column c.if-node.true in
    let arm = c in
    let a = c in
    (controls-lent of (not-refused a.requires.accepts), (starting a.requires both).patch)

pub returns-then-sum : goal.returns-then-sum
returns-then-sum c =
    let both : (let n = c.args.node in (0 < n.row) × (0 < n.column)) = let n = c.args.node in both-start n.row n.column c.if-node.true in
    let sum = c in
    let net = sum in
    let arm = net in
    record { value = found-there c.requires both net.reweigh.ensures sum.sum_over-sum.ensures c.if-sum.true c.point.ensures; net_for = net.reweigh.ensures }

pub surface_jet-requires : goal.surface_jet-requires
surface_jet-requires c = not-refused c.requires.accepts

pub returns : goal.returns
returns c =
    let jet = c in
    let joined = jet in
    record {
      value = c.located.ensures ∙ ap located jet.surface_jet.ensures;
      net_for = elim c.if-node.branch [
        | then-node+else-sum w ↦ rw w.net-is w.reweigh.ensures
        | else-node w ↦ rw w.net-is (unweighed c.requires.weights w.if-node.false)
      ];
    }
