-- A distance of points with finite coordinates is a number of sign plus. Assumes nothing.
use Rattle.std.specs.Prelude.{◌≡◌, true, false}
use Rattle.std.proofs.Math.Bool.{and-eq-true_iff}
use Rattle.std.specs.Float.Ieee.{is_nan}
use Rattle.float64.specs.Functions.{is_finite}
use Rattle.float64.specs.Nonneg.{Nonneg, square-nonneg, sum_nonneg, root-nonneg, finite-sub-number}
use Rattle.vector3.specs.declared.Vector3.{Vector3}
use Rattle.vector3.specs.Vector3.{sub, dot, norm, distance, finite_vector}

-- all three coordinates are finite
pub record Finite (a : Vector3) : Type 0 where
  pub x : is_finite a.x ≡ true
  pub y : is_finite a.y ≡ true
  pub z : is_finite a.z ≡ true

pub vector-finite : (a : Vector3) → finite_vector a ≡ true → Finite a
unfolding finite_vector
vector-finite a h =
    let z = (and-eq-true_iff _ _).0 h in
    let y = (and-eq-true_iff _ _).0 z.0 in
    record { x = y.0; y = y.1; z = z.1 }

pub norm-number : (a : Vector3) → is_nan a.x ≡ false → is_nan a.y ≡ false → is_nan a.z ≡ false → Nonneg (norm a)
unfolding norm dot
norm-number a p q r = root-nonneg (sum_nonneg (sum_nonneg (square-nonneg _ p) (square-nonneg _ q)) (square-nonneg _ r))

pub distance-number : (a b : Vector3) → Finite a → Finite b → Nonneg (distance a b)
unfolding distance sub
distance-number a b p q =
    norm-number (sub a b) (finite-sub-number _ _ p.x q.x) (finite-sub-number _ _ p.y q.y) (finite-sub-number _ _ p.z q.z)
