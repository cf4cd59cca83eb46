-- The price of a survey is the number of grid points that it evaluates, and its points are those of the whole grid, for every evaluation function. Assumes nothing.
use Rattle.std.specs.Prelude.{◌≡◌, Float}
use Rattle.std.proofs.Math.Path.{refl, ap}
use mathlib.Core.List.{List, [], ◌∷◌, ◌++◌, map}
use Rattle.vector3.specs.declared.Vector3.{Vector3}
use Rattle.price.specs.Price.{Priced, refused, answered, after, mapped}
use Rattle.price.specs.PriceLaws.{Answers}
use Rattle.price.specs.Evaluations.{Pair, unless_refused, until}
use Rattle.price.specs.EvaluationLaws.{last, Evaluates, after-evaluates, mapped-evaluates}
use Rattle.patch.specs.declared.Evaluated.{Evaluated}
use Rattle.patch.specs.declared.Evaluated.TheVariants.{Found, Refused}
use Rattle.patch.specs.Patch.{from_mark}
use Rattle.shortlist.specs.declared.Start.{Start}
use Rattle.shortlist.specs.FirstSix.{start_at}
use Rattle.seeds.specs.Grid.{seen, row_of, survey}
use Rattle.seeds.specs.Visits.{grid_of, pair_of, point_of, points_of}

module _ (mark : Vector3) (eval : Float → Float → Evaluated) where
  -- ---- how many

  seen-evaluates : (rest : Priced (List Start)) (qs : List Pair) (x y : Float) (e : Evaluated) → eval x y ≡ e → Evaluates eval rest (until eval qs)
      → Evaluates eval (seen mark eval rest x y e) ((x, y) ∷ unless_refused e (until eval qs))
  unfolding seen unless_refused
  seen-evaluates rest qs x y Refused p h = record { count = refl; ending = last p }
  seen-evaluates rest qs x y (Found j) p h =
      let more : List Start → List Start = λ ps. start_at (from_mark mark j) x y ∷ ps in
      after-evaluates eval ((x, y) ∷ []) (until eval qs) (mapped more rest) ((j, p), tt) (mapped-evaluates eval more (until eval qs) rest h)

  row-evaluates : (x : Float) (ys : List Float) (below : Priced (List Start)) (qs : List Pair) → Evaluates eval below (until eval qs)
      → Evaluates eval (row_of mark eval x ys below) (until eval (map (λ y. (x, y)) ys ++ qs))
  unfolding row_of until
  row-evaluates x [] below qs h = h
  row-evaluates x (y ∷ ys) below qs h = seen-evaluates (row_of mark eval x ys below) (map (λ y. (x, y)) ys ++ qs) x y (eval x y) refl (row-evaluates x ys below qs h)

  -- a survey's price is the number of grid points up to the first that is refused
  pub survey-evaluates : (us vs : List Float) → Evaluates eval (survey mark eval us vs) (until eval (grid_of us vs))
  unfolding survey grid_of until
  survey-evaluates [] vs = record { count = refl; ending = tt }
  survey-evaluates (x ∷ us) vs = row-evaluates x vs (survey mark eval us vs) (grid_of us vs) (survey-evaluates us vs)

  -- ---- which points

  -- these are the points of all these pairs
  pub record PointsOf (qs : List Pair) (ps : List Start) : Type 0 where
    pub pairs : map pair_of ps ≡ qs
    pub points : ps ≡ points_of mark eval qs

  abbrev Sees : List Pair → Priced (List Start) → Type 0
  Sees qs s = Answers (λ ps n. PointsOf qs ps) s

  seen-points : (rest : Priced (List Start)) (qs : List Pair) (x y : Float) (e : Evaluated) → eval x y ≡ e → Sees qs rest → Sees ((x, y) ∷ qs) (seen mark eval rest x y e)
  unfolding seen after mapped points_of point_of
  seen-points rest qs x y Refused p h = tt
  seen-points (refused n) qs x y (Found j) p h = tt
  seen-points (answered ps n) qs x y (Found j) p h =
      record { pairs = ap (λ rs. (x, y) ∷ rs) h.pairs; points = rw p (ap (λ rs. start_at (from_mark mark j) x y ∷ rs) h.points) }

  row-points : (x : Float) (ys : List Float) (below : Priced (List Start)) (qs : List Pair) → Sees qs below → Sees (map (λ y. (x, y)) ys ++ qs) (row_of mark eval x ys below)
  unfolding row_of
  row-points x [] below qs h = h
  row-points x (y ∷ ys) below qs h = seen-points (row_of mark eval x ys below) (map (λ y. (x, y)) ys ++ qs) x y (eval x y) refl (row-points x ys below qs h)

  -- where a survey is answered, its points are those of the whole grid, in the grid's order, each with the distance of its evaluation
  pub survey-grid : (us vs : List Float) → Answers (λ ps n. PointsOf (grid_of us vs) ps) (survey mark eval us vs)
  unfolding survey grid_of points_of
  survey-grid [] vs = record { pairs = refl; points = refl }
  survey-grid (x ∷ us) vs = row-points x vs (survey mark eval us vs) (grid_of us vs) (survey-grid us vs)
