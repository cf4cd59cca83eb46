use Rattle.edges.proofs.Steps.{not_sound, found}
use Rattle.edges.proofs.singular_checked.Goals as goal

pub returns-then-not-sound_tolerance : goal.returns-then-not-sound_tolerance
returns-then-not-sound_tolerance c = not_sound _ _ _ c.sound_tolerance.ensures (c.if-not-sound_tolerance.true)

pub returns : goal.returns
returns c = let at = c in found _ _ _ at.sound_tolerance.ensures (at.if-not-sound_tolerance.false) c.all_edges.ensures
