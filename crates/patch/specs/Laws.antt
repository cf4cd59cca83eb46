-- What is found is finite. Assumes nothing.
use Rattle.std.specs.Prelude.{◌≡◌, refl, Bool, true, false, not, cond, ◌&&◌, ℕ}
use Rattle.std.proofs.Common.{subst, arith}
use Rattle.std.proofs.Math.Bool.{and-eq-true_iff}
use Rattle.std.specs.Float.Ieee.{le}
use Rattle.float64.specs.Operators.{0·}
use Rattle.vector3.specs.declared.Vector3.{Vector3}
use Rattle.vector3.specs.Vector3.{finite_vector}
use Rattle.vector3.specs.Laws.{Finite, vector-finite}
use Rattle.patch.specs.declared.Sums.{Sums}
use Rattle.patch.specs.declared.Jet.{Jet}
use Rattle.patch.specs.declared.Evaluated.{Evaluated}
use Rattle.patch.specs.declared.Evaluated.TheVariants.{Found, Refused}
use Rattle.patch.specs.Patch.{point_of, first_of, finite_seconds, finite_sums, jet_of, quotients, rational}

-- all nine numbers are finite
pub record FiniteJet (j : Jet) : Type 0 where
  pub point : Finite j.point
  pub u : Finite j.u
  pub v : Finite j.v

-- what is found was not refused
passed : (t : Bool) {e : Evaluated} {j : Jet} → cond t e Refused ≡ Found j → (t ≡ true) × (e ≡ Found j)
passed true h = (refl, h)
passed false h = let z : ◌≡◌ {A = ℕ} 0 1 = cc in absurd (omega arith)

quotients-finite : (p a b : Vector3) (t : Bool) {j : Jet}
    → cond (finite_vector p && finite_vector a && finite_vector b && t) (Found (jet_of p a b)) Refused ≡ Found j → FiniteJet j
quotients-finite p a b t {j} h =
    let found = passed (finite_vector p && finite_vector a && finite_vector b && t) h in
    let same : jet_of p a b ≡ j = cc in
    let pab = (and-eq-true_iff _ _).0 ((and-eq-true_iff _ _).0 found.0).0 in
    let pa = (and-eq-true_iff _ _).0 pab.0 in
    subst FiniteJet same (record { point = vector-finite p pa.0; u = vector-finite a pa.1; v = vector-finite b pab.1 })

pub jet-finite : (s : Sums) {j : Jet} → rational s ≡ Found j → FiniteJet j
unfolding rational quotients
jet-finite s h =
    let p = point_of s.value in
    let a = first_of s.value.w s.u p in
    let b = first_of s.value.w s.v p in
    quotients-finite p a b (finite_seconds s p a b) (passed (finite_sums s && not (le s.value.w 0·)) h).1
