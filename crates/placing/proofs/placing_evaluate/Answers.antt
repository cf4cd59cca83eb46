use Rattle.lent.specs.FitLaws.{jet-room}
use Rattle.placing.specs.Boundary.{evaluates}
use Rattle.placing.proofs.Steps.{shape-read, evaluated-by, jet-unfit, jet-fit}
use Rattle.placing.proofs.placing_evaluate.Goals as goal

pub returns-then-not-fits_jet : goal.returns-then-not-fits_jet
unfolding evaluates
returns-then-not-fits_jet c = jet-unfit _ _ c.fits_jet.ensures (c.if-not-fits_jet.true)

pub lay_jet-requires : goal.lay_jet-requires
lay_jet-requires c = let el = c in jet-room _ _ _ el.fits_jet.ensures (el.if-not-fits_jet.false)

pub returns : goal.returns
unfolding evaluates
returns c =
    let to = c in
    let sh = to in
    let at = sh in
    jet-fit _ _ at.fits_jet.ensures (at.if-not-fits_jet.false) (evaluated-by _ _ _ _ (shape-read _ _ _ _ _ sh.shape_of-shape.ensures sh.window_from.ensures) _ _ to.evaluate-found.ensures) c.lay_jet.ensures
