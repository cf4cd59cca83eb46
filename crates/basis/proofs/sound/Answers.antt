-- The three tests are those of the callee.
use Rattle.basis.proofs.sound.Goals as goal

pub returns : goal.returns
returns c = simp (c.is_finite.ensures, c.is_finite-2.ensures, c.is_finite-3.ensures)
