use Rattle.row.specs.Row.{misfit}
use borrow.Author.Rules.{rules}
use Rattle.row.proofs.marks.misfit.Goals as goal

pub returns : goal.returns
unfolding misfit
returns c = search rules
