-- What is found by first derivatives alone, or the plain way.
use Rattle.scaled.specs.Accepted.{not-refused}
use Rattle.scaled.proofs.scaled_jet.Goals as goal

pub first_order-quick-requires : goal.first_order-quick-requires
first_order-quick-requires c =
    let pre = c.requires in
    (pre, c.if-accepted.true)

pub returns-in-Found : goal.returns-in-Found
returns-in-Found c = c.first_order-quick.ensures _ c.in-Found.is

pub surface_jet-requires : goal.surface_jet-requires
surface_jet-requires c = not-refused c.requires

pub returns : goal.returns
returns c = c.surface_jet.ensures
