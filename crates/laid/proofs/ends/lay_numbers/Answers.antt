use Rattle.laid.proofs.EndSteps.{four-edges}
use Rattle.laid.proofs.ends.lay_numbers.Goals as goal

pub returns : goal.returns
returns c =
    let l4 = c in
    let l3 = l4 in
    let l2 = l3 in
    let l1 = l2 in
    four-edges _ _ _ _ _ l1.lay_edge.ensures l2.lay_edge-2.ensures l3.lay_edge-3.ensures l4.lay_edge-4.ensures
