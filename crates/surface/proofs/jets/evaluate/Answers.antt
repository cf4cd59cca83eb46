-- By what the checks answer.
use mathlib.Core.Path.{sym, ◌∙◌}
use Rattle.surface.specs.SurfaceLaws.{checked-scale}
use Rattle.surface.proofs.EvaluateSteps.{told-refusal, told-scale}
use Rattle.surface.proofs.jets.evaluate.Goals as goal

pub surface_jet-requires : goal.surface_jet-requires
surface_jet-requires c = (checked-scale _ _ (sym c.check-checked.ensures ∙ c.in-Scale.is)).0

pub returns-in-Refusal : goal.returns-in-Refusal
returns-in-Refusal c = told-refusal _ _ _ c.check-checked.ensures c.in-Refusal.is

pub returns-in-Scale : goal.returns-in-Scale
returns-in-Scale c = told-scale _ _ _ c.check-checked.ensures c.in-Scale.is c.surface_jet.ensures c.or_nine.ensures
