-- How u and v move as a surface point moves by a vector. Definitions only.
use Rattle.std.specs.Prelude.{ℕ, not, cond, ◌||◌, Float}
use Rattle.std.specs.Float.Ieee.{le}
use Rattle.float64.specs.Operators.{◌⊖◌, ◌⊗◌, ◌⊘◌, 1e-24}
use Rattle.float64.specs.Functions.{is_finite}
use Rattle.vector3.specs.declared.Vector3.{Vector3}
use Rattle.vector3.specs.Vector3.{dot, finite_vector}
use Rattle.patch.specs.declared.Jet.{Jet}
use Rattle.patch.specs.declared.Evaluated.{Evaluated}
use Rattle.patch.specs.declared.Evaluated.TheVariants.{Found, Refused}
use Rattle.surface.specs.Surface.{Surface, checked, evaluate_by}
use Rattle.inverter.specs.declared.Components.{Components}
use Rattle.inverter.specs.declared.Components.TheVariants.{Along, Refusal}
use Rattle.inverter.specs.Inverter.{on_checked, charged}

-- by Cramer's rule. Refused where the determinant is not finite or at most 1e-24 of a and c multiplied, which is not a run's test.
unfoldable pub resolved : Float → Float → Float → Float → Float → Components
resolved a b c r0 r1 =
    let det = a ⊗ c ⊖ b ⊗ b in
    cond (not (is_finite det) || le det (1e-24 ⊗ a ⊗ c)) (Refusal 10 1) (Along ((c ⊗ r0 ⊖ b ⊗ r1) ⊘ det) ((a ⊗ r1 ⊖ b ⊗ r0) ⊘ det))

unfoldable pub moved : Vector3 → Jet → Components
moved d j =
    let du = j.u in
    let dv = j.v in
    resolved (dot du du) (dot du dv) (dot dv dv) (dot du d) (dot dv d)

unfoldable pub moved_from : Vector3 → Evaluated → Components
moved_from d Refused = Refusal 9 1
moved_from d (Found j) = moved d j

-- the call. Its own pair is not under check 7.
unfoldable pub derived : Surface → Float → Float → Vector3 → ℕ → Components
derived s u v d budget = on_checked (λ n. Refusal n 0) (checked s) (λ m. charged (finite_vector d) budget (moved_from d (evaluate_by s m u v)))
