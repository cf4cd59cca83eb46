use mathlib.Core.Path.{◌≡◌, ◌∙◌}
use Rattle.vector3.specs.declared.Vector3.{Vector3}
use Rattle.patch.specs.declared.Jet.{Jet}
use Rattle.patch.specs.declared.Evaluated.{Evaluated}
use Rattle.patch.specs.declared.Evaluated.TheVariants.{Found, Refused}
use Rattle.inverter.specs.declared.Components.{Components}
use Rattle.inverter.specs.declared.Components.TheVariants.{Refusal}
use Rattle.inverter.specs.Preimage.{moved, moved_from}
use Rattle.inverter.proofs.preimage.moved_at.Goals as goal

module _ (d : Vector3) {e f : Evaluated} (p : e ≡ f) where
  nowhere : e ≡ Refused → Refusal 9 1 ≡ moved_from d f
  unfolding moved_from
  nowhere h = simp (← p, h)

  there : {j : Jet} → e ≡ Found j → {r : Components} → r ≡ moved d j → r ≡ moved_from d f
  unfolding moved_from
  there h q = q ∙ simp (← p, h)

pub returns-in_default : goal.returns-in_default
returns-in_default c = nowhere _ c.surface_jet.ensures c.in_default.is

pub returns : goal.returns
returns c =
    let to = c in
    there _ to.surface_jet.ensures to.in-Found.is c.moved.ensures
