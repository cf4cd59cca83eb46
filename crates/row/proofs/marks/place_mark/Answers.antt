-- What `step` says, with a pair at one front, and its end and origin at the other.
use mathlib.Core.Path.{sym, ◌∙◌}
use Rattle.row.specs.Row.{u_of, v_of, end_of, origin_of}
use Rattle.row.proofs.Steps.{stays, fronts}
use Rattle.row.proofs.marks.place_mark.Goals as goal

pub step-stepped-requires : goal.step-stepped-requires
step-stepped-requires c = c.requires.0

pub returns-in_default : goal.returns-in_default
returns-in_default c = record { value = c.step-stepped.ensures; answers_after = stays u_of v_of _ c.in_default.is; ends_after = stays end_of origin_of _ c.in_default.is }

pub returns : goal.returns
returns c =
    let is = c in
    let to = is in
    let at = to in
    let e = c.ending_number.ensures in
    record { value = sym is.in-Placed.is ∙ to.step-stepped.ensures; answers_after = fronts u_of v_of at.args.answers.now _ _ at.requires.1; ends_after = rw e (fronts end_of origin_of at.args.ends.now _ _ at.requires.2) }
