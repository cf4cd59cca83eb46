-- The pairs that an inversion in plain steps evaluates, in order, with no word of a count. Definitions only.
use Rattle.std.specs.Prelude.{Bool, false, cond, List, [], ◌∷◌, ◌++◌, Float}
use Rattle.vector3.specs.declared.Vector3.{Vector3}
use Rattle.price.specs.Price.{Priced, refused, answered}
use Rattle.price.specs.Evaluations.{Pair, until}
use Rattle.patch.specs.declared.Evaluated.{Evaluated}
use Rattle.domain.specs.declared.Domain.{Domain}
use Rattle.surface.specs.Surface.{Surface, evaluate_by, window_of}
use Rattle.newton.specs.declared.End.{End}
use Rattle.newton.specs.Run.{run}
use Rattle.newton.specs.Visits.{visits}
use Rattle.shortlist.specs.declared.Start.{Start}
use Rattle.shortlist.specs.FirstSix.{starts_of}
use Rattle.window.specs.Values.{values_u, values_v}
use Rattle.seeds.specs.Visits.{grid_of, points_of}
use Rattle.inversion.specs.declared.Hint.{Hint}
use Rattle.inversion.specs.declared.Hint.TheVariants.{Nothing, At}
use Rattle.inversion.specs.Inversion.{within}

-- whether a run ends within the tolerance; a refused one has no end
unfoldable pub is_close : Float → Priced End → Bool
is_close tolerance (refused n) = false
is_close tolerance (answered e n) = within e tolerance

module _ (d : Domain) (mark : Vector3) (eval : Float → Float → Evaluated) where
  -- each start's run, in order
  unfoldable pub visits_of : List Start → List Pair
  visits_of [] = []
  visits_of (s ∷ ss) = visits d mark eval s.u s.v ++ visits_of ss

  module _ (us vs : List Float) where
    -- the whole grid, the runs from its starts, and at the end these
    unfoldable pub search : List Pair → List Pair
    search again =
        let grid = grid_of us vs in
        grid ++ (visits_of (starts_of (points_of mark eval grid)) ++ again)

    -- where none is refused: "the evaluations of an accepted hint's run; else those of the hint's run, if any, twice, one for each grid point, and those of each start's run"
    unfoldable pub planned : Hint → Float → List Pair
    planned Nothing tolerance = search []
    planned (At u v) tolerance =
        let hinted = visits d mark eval u v in
        hinted ++ cond (is_close tolerance (run d mark eval u v)) [] (search hinted)

    -- "The first evaluation that refuses ends all"
    unfoldable pub evaluations : Hint → Float → List Pair
    evaluations hint tolerance = until eval (planned hint tolerance)

-- on a surface whose largest weight is m
unfoldable pub evaluations_by : Surface → Float → Vector3 → Hint → Float → List Pair
evaluations_by s m mark hint tolerance = evaluations (window_of s) mark (evaluate_by s m) (values_u s) (values_v s) hint tolerance
