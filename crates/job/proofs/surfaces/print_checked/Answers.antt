-- `job::surfaces::print_checked` meets its contract: refusal 7, or the marks in turn. Assumes nothing.
use mathlib.Core.Path.{sym}
use Rattle.scaled.specs.Accepted.{not-refused}
use Rattle.job.proofs.Steps.{put_as, lines-seven, lines-sound}
use Rattle.job.proofs.surfaces.print_checked.Goals as goal

pub returns-then-not-sound_terms : goal.returns-then-not-sound_terms
returns-then-not-sound_terms c =
    let p = c in
    let t = p in
    let st = t in
    put_as (sym (lines-seven _ _ _ _ (not-refused st.requires.0) _ t.sound_terms.ensures (t.if-not-sound_terms.true))) p.put_refusal.ensures.put

pub returns : goal.returns
returns c =
    let p = c in
    let t = p in
    let st = t in
    put_as (sym (lines-sound _ _ _ _ (not-refused st.requires.0) _ t.sound_terms.ensures (t.if-not-sound_terms.false))) p.print_marks.ensures
