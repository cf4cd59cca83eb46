-- The starts: the points of a grid rising by distance, of equal distances only the first in the grid, six at most. Definitions only.
use Rattle.std.specs.Prelude.{cond, List, [], ◌∷◌, take, Float}
use Rattle.std.specs.Float.Ieee.{le, eq}
use Rattle.shortlist.specs.declared.Start.{Start}

abbrev pub start_at : Float → Float → Float → Start
start_at d x y = record { distance = d; u = x; v = y }

-- before the first that is not nearer, so that equal distances keep the grid's order
unfoldable pub insert : Start → List Start → List Start
insert p [] = p ∷ []
insert p (q ∷ qs) = cond (le p.distance q.distance) (p ∷ q ∷ qs) (q ∷ insert p qs)

unfoldable pub sorted : List Start → List Start
sorted [] = []
sorted (p ∷ ps) = insert p (sorted ps)

-- p, and of those after it the ones at another distance than the one before
unfoldable pub apart_from : Start → List Start → List Start
apart_from p [] = p ∷ []
apart_from p (q ∷ qs) = cond (eq p.distance q.distance) (apart_from p qs) (p ∷ apart_from q qs)

unfoldable pub apart : List Start → List Start
apart [] = []
apart (p ∷ ps) = apart_from p ps

unfoldable pub starts_of : List Start → List Start
starts_of ps = take 6 (apart (sorted ps))
