use Rattle.laid.proofs.Steps.{end_kept, end-told}
use Rattle.laid.proofs.answers.lay_end.Goals as goal

pub returns-in_default : goal.returns-in_default
returns-in_default c = end_kept _ c.in_default.is

pub returns : goal.returns
returns c =
    let k = c in
    let st = k in
    end-told st.args.ended.now st.requires c.ending_number.ensures k.in-Pair.is
