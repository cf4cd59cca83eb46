use mathlib.Core.Path.{refl, ap, ◌∙◌}
use Rattle.float64.specs.Functions.{larger, lesser}
use Rattle.spline.proofs.weights.with_pair.Goals as goal

pub returns : goal.returns
returns c =
    let l = c in
    let a = l.args in
    (refl, l.lesser-2.ensures ∙ ap (lesser a.e.least) l.lesser.ensures, c.larger-2.ensures ∙ ap (larger a.e.most) c.larger.ensures)
