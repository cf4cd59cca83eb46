-- The laws say what is kept.
use Rattle.inversion.proofs.SearchSteps.{keeps-first, keeps-nearer, keeps-earlier}
use Rattle.inversion.proofs.search.keep.Goals as goal

pub returns-in_default : goal.returns-in_default
returns-in_default c = keeps-first _ _ c.in_default.is

pub returns-then-choice-nearest : goal.returns-then-choice-nearest
returns-then-choice-nearest c = keeps-nearer _ _ _ c.in-At.is c.if-choice-nearest.true

pub returns : goal.returns
returns c = keeps-earlier _ _ _ c.in-At.is c.if-choice-nearest.false
