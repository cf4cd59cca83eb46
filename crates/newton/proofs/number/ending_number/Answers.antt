-- Each case is the definition's.
use Rattle.newton.specs.Run.{ending_number}
use Rattle.newton.proofs.number.ending_number.Goals as goal

pub returns-in-Unchanged : goal.returns-in-Unchanged
unfolding ending_number
returns-in-Unchanged c = simp c.in-Unchanged.is

pub returns-in-Further : goal.returns-in-Further
unfolding ending_number
returns-in-Further c = simp c.in-Further.is

pub returns-in-SmallStep : goal.returns-in-SmallStep
unfolding ending_number
returns-in-SmallStep c = simp c.in-SmallStep.is

pub returns-in-SecondSingular : goal.returns-in-SecondSingular
unfolding ending_number
returns-in-SecondSingular c = simp c.in-SecondSingular.is

pub returns-in-AllRounds : goal.returns-in-AllRounds
unfolding ending_number
returns-in-AllRounds c = simp c.in-AllRounds.is
