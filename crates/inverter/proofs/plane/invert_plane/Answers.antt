use Rattle.inverter.specs.Plane.{placed_on}
use Rattle.inverter.proofs.Steps.{unsound, unpaid, paid}
use Rattle.inverter.proofs.plane.invert_plane.Goals as goal

pub returns-then-not-sound_plane : goal.returns-then-not-sound_plane
unfolding placed_on
returns-then-not-sound_plane c = unsound c.sound_plane.ensures _ _ (c.if-not-sound_plane.true)

pub returns-then-budget-eq0 : goal.returns-then-budget-eq0
unfolding placed_on
returns-then-budget-eq0 c = let at = c in unpaid at.sound_plane.ensures _ _ (at.if-not-sound_plane.false) c.if-budget-eq0.true

pub returns : goal.returns
unfolding placed_on
returns c = let at = c in paid at.sound_plane.ensures _ _ (at.if-not-sound_plane.false) c.if-budget-eq0.false c.local.ensures
