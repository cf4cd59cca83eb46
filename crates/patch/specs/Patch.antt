-- The sums of a rational patch and their quotient, by The NURBS Book (equation 4.20), with the source's order of float operations. Definitions only.
use Rattle.std.specs.Prelude.{Bool, not, cond, ◌&&◌, Float}
use Rattle.std.specs.Float.Ieee.{le}
use Rattle.float64.specs.Operators.{◌⊕◌, ◌⊖◌, ◌⊗◌, ◌⊘◌, 0·, 2·}
use Rattle.float64.specs.Functions.{is_finite}
use Rattle.vector3.specs.declared.Vector3.{Vector3}
use Rattle.vector3.specs.Vector3.{distance, finite_vector}
use Rattle.basis.specs.Basis.{Three, three}
use Rattle.patch.specs.declared.Derivatives.{Derivatives}
use Rattle.patch.specs.declared.Sum.{Sum}
use Rattle.patch.specs.declared.Sums.{Sums}
use Rattle.patch.specs.declared.Jet.{Jet}
use Rattle.patch.specs.declared.Evaluated.{Evaluated}
use Rattle.patch.specs.declared.Evaluated.TheVariants.{Found, Refused}

-- ---- sums, which start from +0

abbrev pub empty_sum : Sum
empty_sum = record { w = 0·; x = 0·; y = 0·; z = 0· }

abbrev pub empty_sums : Sums
empty_sums = record { value = empty_sum; u = empty_sum; v = empty_sum; uu = empty_sum; uv = empty_sum; vv = empty_sum }

-- a control p more, by the coefficient c
unfoldable pub more : Float → Vector3 → Sum → Sum
more c p s = record { w = s.w ⊕ c; x = s.x ⊕ c ⊗ p.x; y = s.y ⊕ c ⊗ p.y; z = s.z ⊕ c ⊗ p.z }

-- a control p of the weight w more, at which the functions of u and of v have these derivatives
unfoldable pub add_control : Three → Three → Float → Vector3 → Sums → Sums
add_control (three a0 a1 a2) (three b0 b1 b2) w p s = record {
  value = more (a0 ⊗ b0 ⊗ w) p s.value;
  u = more (a1 ⊗ b0 ⊗ w) p s.u;
  v = more (a0 ⊗ b1 ⊗ w) p s.v;
  uu = more (a2 ⊗ b0 ⊗ w) p s.uu;
  uv = more (a1 ⊗ b1 ⊗ w) p s.uv;
  vv = more (a0 ⊗ b2 ⊗ w) p s.vv;
}

abbrev pub three_of : Derivatives → Three
three_of d = three d.value d.first d.second

-- ---- quotients, of which w is the weight sum

unfoldable pub point_of : Sum → Vector3
point_of s = record { x = s.x ⊘ s.w; y = s.y ⊘ s.w; z = s.z ⊘ s.w }

-- the first derivative from its own sum s, with the point p
unfoldable pub first_of : Float → Sum → Vector3 → Vector3
first_of w s p = record {
  x = (s.x ⊖ s.w ⊗ p.x) ⊘ w;
  y = (s.y ⊖ s.w ⊗ p.y) ⊘ w;
  z = (s.z ⊖ s.w ⊗ p.z) ⊘ w;
}

-- the second derivative along one axis, of which w1 and a are the first derivatives of the weight and of the surface
unfoldable pub second_of : Float → Sum → Float → Vector3 → Vector3 → Vector3
second_of w s w1 a p = record {
  x = (s.x ⊖ 2· ⊗ w1 ⊗ a.x ⊖ s.w ⊗ p.x) ⊘ w;
  y = (s.y ⊖ 2· ⊗ w1 ⊗ a.y ⊖ s.w ⊗ p.y) ⊘ w;
  z = (s.z ⊖ 2· ⊗ w1 ⊗ a.z ⊖ s.w ⊗ p.z) ⊘ w;
}

-- the mixed one, of which w1 and a are the first derivatives along u, and w2 and b those along v
unfoldable pub mixed_of : Float → Sum → Float → Vector3 → Float → Vector3 → Vector3 → Vector3
mixed_of w s w1 a w2 b p = record {
  x = (s.x ⊖ w1 ⊗ b.x ⊖ w2 ⊗ a.x ⊖ s.w ⊗ p.x) ⊘ w;
  y = (s.y ⊖ w1 ⊗ b.y ⊖ w2 ⊗ a.y ⊖ s.w ⊗ p.y) ⊘ w;
  z = (s.z ⊖ w1 ⊗ b.z ⊖ w2 ⊗ a.z ⊖ s.w ⊗ p.z) ⊘ w;
}

unfoldable pub finite_sum : Sum → Bool
finite_sum s = is_finite s.w && is_finite s.x && is_finite s.y && is_finite s.z

abbrev pub jet_of : Vector3 → Vector3 → Vector3 → Jet
jet_of p a b = record { point = p; u = a; v = b }

-- how far a jet's point is from a mark
unfoldable pub from_mark : Vector3 → Jet → Float
from_mark mark j = distance j.point mark

-- from the sums of the value and of the two first derivatives
unfoldable pub jet_of_sums : Sum → Sum → Sum → Jet
jet_of_sums s u v = let p = point_of s in jet_of p (first_of s.w u p) (first_of s.w v p)

-- second derivatives are worked out only to be tested: an overflow in one refuses the whole
unfoldable pub finite_seconds : Sums → Vector3 → Vector3 → Vector3 → Bool
finite_seconds s p a b =
    let w = s.value.w in
    finite_vector (second_of w s.uu s.u.w a p)
    && finite_vector (mixed_of w s.uv s.u.w a s.v.w b p)
    && finite_vector (second_of w s.vv s.v.w b p)

unfoldable pub quotients : Sums → Evaluated
quotients s =
    let w = s.value.w in
    let p = point_of s.value in
    let a = first_of w s.u p in
    let b = first_of w s.v p in
    cond (finite_vector p && finite_vector a && finite_vector b && finite_seconds s p a b) (Found (jet_of p a b)) Refused

unfoldable pub finite_sums : Sums → Bool
finite_sums s = finite_sum s.value && finite_sum s.u && finite_sum s.v && finite_sum s.uu && finite_sum s.uv && finite_sum s.vv

-- refused where a sum is not finite or the weight sum not above 0
unfoldable pub rational : Sums → Evaluated
rational s = cond (finite_sums s && not (le s.value.w 0·)) (quotients s) Refused
