-- The test is that of the definition.
use Rattle.basis.specs.Rows.{mix_of}
use Rattle.basis.proofs.mix.Goals as goal

pub returns-then-b : goal.returns-then-b
unfolding mix_of
returns-then-b c = simp c.if-b.true

pub returns : goal.returns
unfolding mix_of
returns c = simp c.if-b.false
