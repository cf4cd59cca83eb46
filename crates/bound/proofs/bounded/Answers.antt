-- The three tests are those of the law.
use mathlib.Core.Bool.{false≢true}
use Rattle.bound.specs.BoundLaws.{ends_fit, sizes-bounded}
use Rattle.bound.proofs.bounded.Goals as goal

pub returns-then-knots-lt2 : goal.returns-then-knots-lt2
returns-then-knots-lt2 c = λ degree controls h t. absurd (false≢true t)

pub returns : goal.returns
unfolding ends_fit
returns c = λ degree controls h t. sizes-bounded _ h (rw (c.abs.ensures, c.abs-2.ensures, c.gaps_fit.ensures) at t)
