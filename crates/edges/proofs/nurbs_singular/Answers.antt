use mathlib.Core.Path.{sym, ◌∙◌}
use Rattle.surface.specs.SurfaceLaws.{checked-scale}
use Rattle.edges.proofs.Steps.{refused, passed}
use Rattle.edges.proofs.nurbs_singular.Goals as goal

pub singular_checked-requires : goal.singular_checked-requires
singular_checked-requires c = (checked-scale _ _ (sym c.check-checked.ensures ∙ c.in-Scale.is)).0

pub returns-in-Refusal : goal.returns-in-Refusal
returns-in-Refusal c = refused _ _ c.check-checked.ensures c.in-Refusal.is

pub returns-in-Scale : goal.returns-in-Scale
returns-in-Scale c = passed _ _ c.check-checked.ensures c.in-Scale.is c.singular_checked.ensures
