-- By the two answers.
use Rattle.seeds.specs.Table.{located}
use Rattle.seeds.proofs.table.located.Goals as goal

pub returns-in-Found : goal.returns-in-Found
unfolding located
returns-in-Found c = rw c.in-Found.is

pub returns-in-Refused : goal.returns-in-Refused
unfolding located
returns-in-Refused c = rw c.in-Refused.is
