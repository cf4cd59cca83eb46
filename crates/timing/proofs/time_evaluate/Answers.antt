use lib.Ieee.{of_bits, div}
use Rattle.timing.specs.Digest.{of_jet}
use Rattle.timing.proofs.time_evaluate.Goals as goal

pub surface_jet-jet-requires : goal.surface_jet-jet-requires
surface_jet-jet-requires c = rw c.shape_of-shape.ensures c.requires

pub returns-in_default : goal.returns-in_default
unfolding of_jet of_bits div
returns-in_default c =
    let j = c in
    simp (← j.shape_of-shape.ensures, ← j.surface_jet-jet.ensures, c.in_default.is)

pub returns : goal.returns
unfolding of_jet
returns c =
    let f = c in
    let j = f in
    simp (← j.shape_of-shape.ensures, ← j.surface_jet-jet.ensures, f.in-Found.is)
