-- The pairs of the grid, and the points there with their distances. Definitions only.
use Rattle.std.specs.Prelude.{List, [], ◌∷◌, ◌++◌, map, Float}
use Rattle.vector3.specs.declared.Vector3.{Vector3}
use Rattle.price.specs.Evaluations.{Pair}
use Rattle.patch.specs.declared.Evaluated.{Evaluated}
use Rattle.patch.specs.declared.Evaluated.TheVariants.{Found, Refused}
use Rattle.patch.specs.Patch.{from_mark}
use Rattle.shortlist.specs.declared.Start.{Start}
use Rattle.shortlist.specs.FirstSix.{start_at}

-- "each of the source's u values with each of its v values", u-major
unfoldable pub grid_of : List Float → List Float → List Pair
grid_of [] vs = []
grid_of (u ∷ us) vs = map (λ v. (u, v)) vs ++ grid_of us vs

abbrev pub pair_of : Start → Pair
pair_of s = (s.u, s.v)

module _ (mark : Vector3) (eval : Float → Float → Evaluated) where
  unfoldable pub point_of : Float → Float → Evaluated → List Start
  point_of u v Refused = []
  point_of u v (Found j) = start_at (from_mark mark j) u v ∷ []

  -- the points of the pairs that are found
  unfoldable pub points_of : List Pair → List Start
  points_of [] = []
  points_of (p ∷ ps) = point_of p.0 p.1 (eval p.0 p.1) ++ points_of ps
