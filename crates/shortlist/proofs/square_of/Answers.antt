-- What `dot` says of the vector from the mark.
use Rattle.shortlist.proofs.square_of.Goals as goal

pub returns : goal.returns
returns c = simp (c.dot.ensures, c.sub-away.ensures)
