-- The starts as they are kept while the grid is walked: each point put in at its place, unless one as far is there, and the seventh dropped. Definitions only.
use Rattle.std.specs.Prelude.{ℕ, suc, ◌≤◌, ◌≡◌, true, false, cond, T, List, [], ◌∷◌, ◌++◌, take, drop, Float}
use Rattle.std.specs.Float.{binary64}
use Rattle.std.specs.Float.Ieee.{fits, le, eq, is_nan}
use Rattle.float64.specs.Functions.{root}
use Rattle.shortlist.specs.declared.Start.{Start}
use Rattle.shortlist.specs.declared.Starts.{Starts}
use Rattle.shortlist.specs.declared.Shortlist.{Shortlist}
use Rattle.shortlist.specs.FirstSix.{start_at}

abbrev pub starts_in : Starts → List Start
starts_in s = take s.count s.at

-- each no further than the next
pub data Rising : List Start → Type 0 where
  empty : Rising []
  single : {p : Start} → is_nan p.distance ≡ false → Rising (p ∷ [])
  before : {p q : Start} {ss : List Start} → le p.distance q.distance ≡ true → Rising (q ∷ ss) → Rising (p ∷ q ∷ ss)

-- p before the first that is not nearer, unless that one is as far
unfoldable pub insert_unique : Start → List Start → List Start
insert_unique p [] = p ∷ []
insert_unique p (q ∷ qs) = cond (le p.distance q.distance) (cond (eq p.distance q.distance) (q ∷ qs) (p ∷ q ∷ qs)) (q ∷ insert_unique p qs)

unfoldable pub kept : Start → List Start → List Start
kept p ss = take 6 (insert_unique p ss)

-- the points ps after those of which ss are kept
unfoldable pub kept_from : List Start → List Start → List Start
kept_from ss [] = ss
kept_from ss (p ∷ ps) = kept_from (kept p ss) ps

-- how many stand before the first that is not nearer than d
unfoldable pub place_in : Float → List Start → ℕ
place_in d [] = 0
place_in d (q ∷ qs) = cond (le d q.distance) 0 (suc (place_in d qs))

-- p after the first i
abbrev pub spliced : ℕ → Start → List Start → List Start
spliced i p ss = take i ss ++ p ∷ drop i ss

-- a point whose squared distance is not below the limit changes nothing of what is kept
abbrev pub Limits : Float → List Start → Type 0
Limits limit ss = (d x y : Float) → T (fits binary64 d) → le limit d ≡ true → ss ≡ kept (start_at (root d) x y) ss

-- what holds of a shortlist between two points
pub record Sound (n : Shortlist) : Type 0 where
  pub six : n.starts.count ≤ 6
  pub rising : Rising (starts_in n.starts)
  pub limits : Limits n.limit (starts_in n.starts)
