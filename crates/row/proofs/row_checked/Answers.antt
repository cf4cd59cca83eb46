use Rattle.row.proofs.Steps.{seven, sound}
use Rattle.row.proofs.row_checked.Goals as goal

pub returns-then-not-sound_terms : goal.returns-then-not-sound_terms
returns-then-not-sound_terms c =
    let to = c in
    let at = to in
    seven _ _ _ _ _ _ at.requires.0.checked to.sound_terms.ensures (c.if-not-sound_terms.true)

pub returns : goal.returns
returns c =
    let by = c in
    let to = by in
    let at = to in
    sound _ _ _ _ _ _ at.requires.0.checked to.sound_terms.ensures (to.if-not-sound_terms.false) by.place_marks.ensures
