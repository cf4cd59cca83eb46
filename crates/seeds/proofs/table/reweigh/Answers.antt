-- The weights are those that are asked for, or are there already.
use Rattle.seeds.proofs.TableSteps.{newly-weighed, still-weighed}
use Rattle.seeds.proofs.table.reweigh.Goals as goal

pub weigh-requires : goal.weigh-requires
weigh-requires c =
    let pre = c.requires in
    (pre.0, pre.1.patch, pre.2.whole)

pub returns-then-node : goal.returns-then-node
returns-then-node c =
    let both = c.requires.1 in
    newly-weighed both.row both.column c.weigh.ensures

pub returns-else-node : goal.returns-else-node
returns-else-node c = still-weighed c.requires.2 c.if-node.false
