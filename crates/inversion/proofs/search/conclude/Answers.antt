-- No run is left: the end that is kept, where there is one and the units are left.
use Rattle.inversion.proofs.SearchSteps.{concludes-none, concludes-short, concludes-end}
use Rattle.inversion.proofs.search.conclude.Goals as goal

pub returns-in_default : goal.returns-in_default
returns-in_default c = concludes-none _ _ _ _ c.requires c.in_default.is

pub returns-then-budget-taken : goal.returns-then-budget-taken
returns-then-budget-taken c =
    let at = c in
    concludes-short _ _ _ _ at.requires _ at.in-At.is c.if-budget-taken.true

pub returns : goal.returns
returns c =
    let at = c in
    concludes-end _ _ _ _ at.requires _ at.in-At.is c.if-budget-taken.false
