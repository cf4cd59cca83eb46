use Rattle.edges.proofs.Steps.{no_middle, stays_open, collapses}
use Rattle.edges.proofs.side.edge.Goals as goal

pub returns-in_default : goal.returns-in_default
returns-in_default c = no_middle _ _ _ _ c.jet_on-middle.ensures c.in_default.is

pub returns-then-not-all_near : goal.returns-then-not-all_near
returns-then-not-all_near c = stays_open _ _ _ _ c.jet_on-middle.ensures c.in-Found.is c.all_near.ensures c.if-not-all_near.true

pub returns : goal.returns
returns c = collapses _ _ _ _ c.jet_on-middle.ensures c.in-Found.is c.all_near.ensures c.if-not-all_near.false
