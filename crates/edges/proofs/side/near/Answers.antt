use Rattle.edges.proofs.Steps.{found-near, refused-near}
use Rattle.edges.proofs.side.near.Goals as goal

pub returns-in-Found : goal.returns-in-Found
returns-in-Found c = found-near _ _ c.in-Found.is c.distance.ensures

pub returns-in-Refused : goal.returns-in-Refused
returns-in-Refused c = refused-near _ _ c.in-Refused.is
