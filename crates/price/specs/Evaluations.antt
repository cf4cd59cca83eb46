-- The pairs that steps evaluate, in order, with no word of a count. Definitions only.
use Rattle.std.specs.Prelude.{List, [], ◌∷◌, Float}
use Rattle.patch.specs.declared.Evaluated.{Evaluated}
use Rattle.patch.specs.declared.Evaluated.TheVariants.{Found, Refused}

-- (u, v)
abbrev pub Pair : Type 0
Pair = Float × Float

-- nothing is evaluated after one that is refused
unfoldable pub unless_refused : Evaluated → List Pair → List Pair
unless_refused Refused ps = []
unless_refused (Found j) ps = ps

-- "The first evaluation that refuses ends all": the pairs up to that one, itself included
unfoldable pub until : (Float → Float → Evaluated) → List Pair → List Pair
until eval [] = []
until eval (p ∷ ps) = p ∷ unless_refused (eval p.0 p.1) (until eval ps)
