-- The sample is that of the snapped parameter, or there is none.
use mathlib.Core.Path.{sym, ◌∙◌}
use native.Mathlib.Omega.{arith}
use Rattle.spline.specs.KnotLaws.{accepted}
use Rattle.basis.specs.Basis.{shown}
use Rattle.basis.proofs.Gathered.{shows, nowhere, sampled}
use Rattle.basis.proofs.tabulate.Goals as goal

pub snap_on-requires : goal.snap_on-requires
snap_on-requires c = c.requires.0

pub returns-in_default : goal.returns-in_default
unfolding shown
returns-in_default c = sym (nowhere _ _ _ _ c.snap_on.ensures c.in_default.is)

pub first_at-start-requires : goal.first_at-start-requires
first_at-start-requires c = c.requires.0

pub triangle-requires : goal.triangle-requires
triangle-requires c =
    let start = c in
    let p = accepted _ start.requires.0 in
    let b = c.first_at-start.ensures in
    (omega arith, omega arith, start.requires.1)

pub returns : goal.returns
returns c =
    let spans = c in
    let at = spans in
    let p = accepted _ at.requires.0 in
    shows _ _ _ _ p.degree-most _ _ c.triangle.ensures ∙ sym (sampled _ _ _ _ at.snap_on.ensures _ at.in-At.is _ spans.first_at-start.ensures.0)
