-- The grid, u-major, evaluated whole: every point with its distance, one evaluation each. Definitions only.
use Rattle.std.specs.Prelude.{List, [], ◌∷◌, Float}
use Rattle.vector3.specs.declared.Vector3.{Vector3}
use Rattle.price.specs.Price.{Priced, refused, answered, after, mapped}
use Rattle.patch.specs.declared.Evaluated.{Evaluated}
use Rattle.patch.specs.declared.Evaluated.TheVariants.{Found, Refused}
use Rattle.patch.specs.Patch.{from_mark}
use Rattle.shortlist.specs.declared.Start.{Start}
use Rattle.shortlist.specs.FirstSix.{start_at}

module _ (mark : Vector3) (eval : Float → Float → Evaluated) where
  -- the point at (x, y), by its evaluation, and then the rest
  unfoldable pub seen : Priced (List Start) → Float → Float → Evaluated → Priced (List Start)
  seen rest x y Refused = refused 1
  seen rest x y (Found j) = after 1 (mapped (λ ps. start_at (from_mark mark j) x y ∷ ps) rest)

  -- the rest of the row of x, and then the rows below
  unfoldable pub row_of : Float → List Float → Priced (List Start) → Priced (List Start)
  row_of x [] below = below
  row_of x (y ∷ ys) below = seen (row_of x ys below) x y (eval x y)

  unfoldable pub survey : List Float → List Float → Priced (List Start)
  survey [] vs = answered [] 0
  survey (x ∷ xs) vs = row_of x vs (survey xs vs)
