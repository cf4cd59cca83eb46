use Rattle.lent.specs.Lent.{terms_of}
use Rattle.lent.proofs.terms_of.Goals as goal

pub returns : goal.returns
unfolding terms_of
returns c = simp (c.hint_of.ensures, c.period_of.ensures, c.period_of-2.ensures)
