-- An inversion in plain steps, with its price, over any evaluation function. Definitions only.
use Rattle.std.specs.Prelude.{ℕ, suc, Bool, true, false, cond, List, [], ◌∷◌, Float}
use Rattle.std.specs.Float.Ieee.{lt, le}
use Rattle.vector3.specs.declared.Vector3.{Vector3}
use Rattle.price.specs.Price.{Priced, refused, answered, after, mapped, ◌then◌, Paid, spent, paid}
use Rattle.patch.specs.declared.Evaluated.{Evaluated}
use Rattle.domain.specs.declared.Domain.{Domain}
use Rattle.surface.specs.Surface.{Surface, evaluate_by, window_of}
use Rattle.newton.specs.declared.End.{End}
use Rattle.newton.specs.Run.{run}
use Rattle.shortlist.specs.declared.Start.{Start}
use Rattle.window.specs.Values.{values_u, values_v}
use Rattle.shortlist.specs.FirstSix.{starts_of}
use Rattle.seeds.specs.Grid.{survey}
use Rattle.inversion.specs.declared.Hint.{Hint}
use Rattle.inversion.specs.declared.Choice.{Choice}
use Rattle.inversion.specs.declared.Best.{Best}
use Rattle.inversion.specs.declared.Best.TheVariants.{Nothing, At}
use Rattle.inversion.specs.declared.Answer.{Answer}

-- ---- where a run came from: 0 for the hint, and for a start its place among the starts, from 1 on

abbrev pub of_hint : End → Choice
of_hint e = record { end = e; origin = 0 }

-- those of starts, the first of them in place i
unfoldable pub numbered : ℕ → List End → List Choice
numbered i [] = []
numbered i (e ∷ es) = record { end = e; origin = i } ∷ numbered (suc i) es

-- ---- the choice among them

-- a run's end lies within the tolerance
abbrev pub within : End → Float → Bool
within e tolerance = le e.at.distance tolerance

-- the first with the least distance
unfoldable pub nearer : Choice → Choice → Choice
nearer a b = cond (lt b.end.at.distance a.end.at.distance) b a

unfoldable pub nearest_of : Choice → List Choice → Choice
nearest_of a [] = a
nearest_of a (b ∷ bs) = nearest_of (nearer a b) bs

-- the hint's comes first, where there is one
unfoldable pub led : Best → List Choice → List Choice
led Nothing cs = cs
led (At c) cs = c ∷ cs

-- the nearest, for so many evaluations more
unfoldable pub choose : ℕ → List Choice → Priced Choice
choose more [] = refused 0
choose more (c ∷ cs) = answered (nearest_of c cs) more

-- ---- the plain steps

module _ (d : Domain) (mark : Vector3) (eval : Float → Float → Evaluated) where
  unfoldable pub runs : List Start → Priced (List End)
  runs [] = answered [] 0
  runs (s ∷ ss) = run d mark eval s.u s.v then λ e. mapped (λ es. e ∷ es) (runs ss)

  -- the runs from the starts, the first of them in place i, after k evaluations of a hint's run, the best so far: those are charged again at the end. Without a hint 0, and nothing.
  unfoldable pub searched : Best → ℕ → ℕ → List Start → Priced Choice
  searched best k i ss = runs ss then λ es. choose k (led best (numbered i es))

  module _ (us vs : List Float) where
    unfoldable pub explored : Best → ℕ → Priced Choice
    explored best k = mapped starts_of (survey mark eval us vs) then searched best k 1

    unfoldable pub unless_close : Bool → End → ℕ → Priced Choice
    unless_close true e k = answered (of_hint e) k
    unless_close false e k = after k (explored (At (of_hint e)) k)

    unfoldable pub hinted : Float → Priced End → Priced Choice
    hinted tolerance (refused k) = refused k
    hinted tolerance (answered e k) = unless_close (within e tolerance) e k

    unfoldable pub plain_steps : Hint → Float → Priced Choice
    plain_steps Hint.Nothing tolerance = explored Nothing 0
    plain_steps (Hint.At u v) tolerance = hinted tolerance (run d mark eval u v)

-- ---- on a surface whose largest weight is m

abbrev pub explored_on : Surface → Float → Vector3 → Best → ℕ → Priced Choice
explored_on s m mark best k = explored (window_of s) mark (evaluate_by s m) (values_u s) (values_v s) best k

unfoldable pub inversion_by : Surface → Float → Vector3 → Hint → Float → Priced Choice
inversion_by s m mark hint tolerance = plain_steps (window_of s) mark (evaluate_by s m) (values_u s) (values_v s) hint tolerance

-- ---- the nearest as it is kept while the starts are run from: the earlier of two as far

unfoldable pub kept : Best → Choice → Best
kept Nothing c = At c
kept (At b) c = At (nearer b c)

-- ---- what a budget makes of it, as it is answered

unfoldable pub answer_of : Paid Choice → Answer
answer_of spent = Answer.Spent
answer_of (paid (refused n)) = Answer.Refused n
answer_of (paid (answered c n)) = Answer.Chosen c n
