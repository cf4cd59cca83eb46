use mathlib.Core.Path.{sym, ◌∙◌}
use Rattle.chart.proofs.Steps.{mark-finite, not_sound, found}
use Rattle.chart.proofs.invert_checked.Goals as goal

pub returns-then-not-sound : goal.returns-then-not-sound
returns-then-not-sound c = not_sound _ _ _ _ _ c.sound.ensures (c.if-not-sound.true)

pub invert_nurbs-answer-requires : goal.invert_nurbs-answer-requires
invert_nurbs-answer-requires c =
    let at = c in
    (at.requires, mark-finite _ _ (sym at.sound.ensures ∙ c.if-not-sound.false))

pub returns : goal.returns
returns c = let at = c in found _ _ _ _ _ at.sound.ensures (at.if-not-sound.false) c.invert_nurbs-answer.ensures c.placing_of.ensures
