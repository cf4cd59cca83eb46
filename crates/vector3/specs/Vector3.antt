-- Vectors of three floats. Sums go from the left. Definitions only.
use Rattle.std.specs.Prelude.{Bool, ◌&&◌, Float}
use Rattle.float64.specs.Operators.{◌⊕◌, ◌⊖◌, ◌⊗◌}
use Rattle.float64.specs.Functions.{is_finite, root}
use Rattle.vector3.specs.declared.Vector3.{Vector3}

unfoldable pub sub : Vector3 → Vector3 → Vector3
sub a b = record { x = a.x ⊖ b.x; y = a.y ⊖ b.y; z = a.z ⊖ b.z }

unfoldable pub dot : Vector3 → Vector3 → Float
dot a b = a.x ⊗ b.x ⊕ a.y ⊗ b.y ⊕ a.z ⊗ b.z

unfoldable pub norm : Vector3 → Float
norm a = root (dot a a)

unfoldable pub distance : Vector3 → Vector3 → Float
distance a b = norm (sub a b)

unfoldable pub finite_vector : Vector3 → Bool
finite_vector a = is_finite a.x && is_finite a.y && is_finite a.z
