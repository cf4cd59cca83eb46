-- The test decides as in the definition, by what `finite_sums` says.
use mathlib.Core.Path.{◌≡◌, ◌∙◌}
use mathlib.Core.Bool.{Bool, not, cond, ◌&&◌}
use lib.Ieee.{le}
use Rattle.float64.specs.Operators.{0·}
use Rattle.patch.specs.declared.Sums.{Sums}
use Rattle.patch.specs.declared.Evaluated.TheVariants.{Refused}
use Rattle.patch.specs.Patch.{finite_sums, quotients, rational}
use Rattle.patch.proofs.rational.Goals as goal

tested : (s : Sums) {f t : Bool} → f ≡ finite_sums s → (f && not (le s.value.w 0·)) ≡ t → cond t (quotients s) Refused ≡ rational s
unfolding rational
tested s e h = rw (← e, h)

pub returns-then-finite_sums-value : goal.returns-then-finite_sums-value
returns-then-finite_sums-value c = c.quotients.ensures ∙ tested _ c.finite_sums.ensures c.if-finite_sums-value.true

pub returns : goal.returns
returns c = tested _ c.finite_sums.ensures c.if-finite_sums-value.false
