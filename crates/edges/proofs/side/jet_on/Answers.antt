use Rattle.edges.proofs.Steps.{on-u, on-v}
use Rattle.edges.proofs.side.jet_on.Goals as goal

pub returns-then-line-eq0 : goal.returns-then-line-eq0
returns-then-line-eq0 c =
    let at = c in
    on-u _ c.args.line _ at.eighth-t.ensures c.if-line-eq0.true c.surface_jet.ensures

pub returns : goal.returns
returns c =
    let at = c in
    on-v _ c.args.line _ at.eighth-t.ensures c.if-line-eq0.false c.surface_jet-2.ensures
