use Rattle.lent.specs.FitLaws.{edges_room}
use Rattle.placing.specs.Boundary.{tells}
use Rattle.placing.proofs.Steps.{shape-read, singular-by, edges-unfit, edges_fit}
use Rattle.placing.proofs.placing_nurbs_singular.Goals as goal

pub returns-then-not-fits_edges : goal.returns-then-not-fits_edges
unfolding tells
returns-then-not-fits_edges c = let ro = c in edges-unfit _ _ _ ro.fits_edges.ensures (c.if-not-fits_edges.true)

pub lay_edges-requires : goal.lay_edges-requires
lay_edges-requires c =
    let el = c in
    let ro = el in
    edges_room _ _ _ _ ro.fits_edges.ensures (el.if-not-fits_edges.false)

pub returns : goal.returns
unfolding tells
returns c =
    let la = c in
    let to = la in
    let sh = to in
    let el = sh in
    let ro = el in
    edges_fit _ _ _ ro.fits_edges.ensures (el.if-not-fits_edges.false) (singular-by _ _ _ _ (shape-read _ _ _ _ _ sh.shape_of-shape.ensures sh.window_from.ensures) _ to.nurbs_singular-found.ensures) la.lay_edges.ensures
