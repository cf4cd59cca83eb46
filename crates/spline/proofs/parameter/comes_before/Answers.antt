-- The definition's own test.

use Rattle.spline.proofs.parameter.comes_before.Goals as goal

pub returns-then-left : goal.returns-then-left
returns-then-left c = simp c.if-left.true

pub returns : goal.returns
returns c = simp c.if-left.false
