-- The cases that document 01 marks with a dot, and those of a short budget and of a refused inversion, as one list in its order, and the theorem that every row holds of the definitions.
-- A row that takes many steps is proved by itself, since a declaration may take only so many.
use Rattle.std.specs.Prelude.{◌≡◌, refl, true, false, List, [], ◌∷◌, ◌++◌, map, ℕ, ◌<◌, pos, negsuc, replicate, Float}
use Rattle.std.proofs.Common.{ap, ◌∙◌, arith}
use Rattle.std.specs.Float.{inf, fin}
use Rattle.std.specs.Float.Ieee.{neg, le}
use Rattle.float64.specs.Operators.{0·, ½·, 1·, 2·}
use Rattle.float64.specs.Functions.{root}
use Rattle.vector3.specs.declared.Vector3.{Vector3}
use Rattle.spline.specs.declared.weights.Weighed.{Weighed}
use Rattle.spline.specs.declared.weights.Weighed.TheVariants.{Scale, Refused}
use Rattle.spline.specs.declared.parameter.KnotSide.TheVariants.{Right}
use Rattle.spline.specs.Weights.{weighed, refusal_of}
use Rattle.spline.specs.Knots.{Axis, axis}
use Rattle.basis.specs.Basis.{Sample, sample, three, basis_at}
use Rattle.price.specs.Price.{Priced, refused, answered, price, after, mapped, ◌then◌}
use Rattle.domain.specs.declared.Counts.{Counts}
use Rattle.domain.specs.declared.Window.TheVariants.{Whole}
use Rattle.domain.specs.Intervals.{wrapped}
use Rattle.surface.specs.Surface.{Surface, surface, scale_of, refusal_of_surface, evaluate_by, window_of}
use Rattle.newton.specs.declared.Ending.{Ending}
use Rattle.newton.specs.declared.Ending.TheVariants.{Unchanged, SecondSingular}
use Rattle.newton.specs.declared.End.{End}
use Rattle.newton.specs.Run.{run}
use Rattle.window.specs.Values.{values_u, values_v}
use Rattle.shortlist.specs.declared.Start.{Start}
use Rattle.shortlist.specs.FirstSix.{start_at, starts_of}
use Rattle.shortlist.specs.Compute as Shortlist
use Rattle.seeds.specs.Grid.{survey}
use Rattle.inversion.specs.declared.Hint.{Hint}
use Rattle.inversion.specs.declared.Hint.TheVariants.{Nothing, At}
use Rattle.inversion.specs.declared.Choice.{Choice}
use Rattle.inversion.specs.declared.Best.{Best}
use Rattle.inversion.specs.Inversion.{numbered, led, choose, runs, searched, explored, unless_close, hinted, plain_steps, inversion_by}
use Rattle.chart.specs.declared.Period.TheVariants.{Free}
use Rattle.chart.specs.declared.Terms.{Terms}
use Rattle.chart.specs.declared.Placing.{Placing}
use Rattle.chart.specs.Chart.{sound_search, nearest_to}
use Rattle.chart.specs.Chart as Chart
use Rattle.inverter.specs.declared.Components.{Components}
use Rattle.inverter.specs.declared.Components.TheVariants.{Along, Refusal}
use Rattle.inverter.specs.Inverter.{placed, number_of, left_of}
use Rattle.inverter.specs.Preimage.{derived}
use Rattle.inverter.specs.PlacingLaws.{result_of, answer-enough, answer-short}
use Rattle.inverter.specs.Compute.{compute}
use Rattle.edges.specs.declared.Edge.{Edge}
use Rattle.edges.specs.declared.Edge.TheVariants.{Open, Collapsed}
use Rattle.edges.specs.declared.Edges.{Edges}
use Rattle.edges.specs.declared.Edges.TheVariants.{Found}
use Rattle.edges.specs.Edges.{singular}
use Rattle.edges.specs.Compute as Edges

-- ---- numbers and surfaces of the table

abbrev -0· : Float
-0· = fin true 0 (pos 0)

abbrev ⅛· : Float
⅛· = fin false 1 (negsuc 2)

abbrev ¼· : Float
¼· = fin false 1 (negsuc 1)

abbrev ⅜· : Float
⅜· = fin false 3 (negsuc 2)

abbrev ⅝· : Float
⅝· = fin false 5 (negsuc 2)

abbrev ¾· : Float
¾· = fin false 3 (negsuc 1)

abbrev ⅞· : Float
⅞· = fin false 7 (negsuc 2)

abbrev 3· : Float
3· = fin false 3 (pos 0)

abbrev 4· : Float
4· = fin false 1 (pos 2)

abbrev 5· : Float
5· = fin false 5 (pos 0)

abbrev 7· : Float
7· = fin false 7 (pos 0)

-- 2 ^ -1074, the smallest
abbrev least : Float
least = fin false 1 (negsuc 1073)

-- 1.7e308
abbrev huge : Float
huge = fin false 4258857765019067 (pos 972)

-- 0.49999999999999994
abbrev under-half : Float
under-half = fin false 9007199254740991 (negsuc 53)

-- 0.3
abbrev three-tenths : Float
three-tenths = fin false 5404319552844595 (negsuc 53)

-- 0.0000005
abbrev inside : Float
inside = fin false 4722366482869645 (negsuc 72)

abbrev linear : Counts
linear = record { degree = 1; controls = 2; periodic = false }

-- knots of degree 1 over the domain from 0 to a number
abbrev to : Float → List Float
to last = 0· ∷ 0· ∷ last ∷ last ∷ []

abbrev bilinear : List Float → List Float → Surface
bilinear knots_v controls = surface (record { u = linear; v = linear; window = Whole }) (to 1·) knots_v controls (replicate 4 1·)

abbrev corners : List Float
corners = 0· ∷ 0· ∷ 0· ∷ 0· ∷ 1· ∷ 0· ∷ 1· ∷ 0· ∷ 0· ∷ 1· ∷ 1· ∷ 0· ∷ []

abbrev square : Surface
square = bilinear (to 1·) corners

-- v runs to 1.7e308
abbrev stretched : Surface
stretched = bilinear (to huge) corners

abbrev dot : Surface
dot = bilinear (to 1·) (replicate 12 0·)

abbrev quadratic : Axis
quadratic = axis 2 3 (0· ∷ 0· ∷ 0· ∷ 1· ∷ 1· ∷ 1· ∷ [])

abbrev at : Float → Float → Float → Vector3
at x y z = record { x = x; y = y; z = z }

-- the Square's mark
abbrev mark : Vector3
mark = at ¼· ½· ¾·

-- the Dot's mark
abbrev dot-mark : Vector3
dot-mark = at 3· 4· 0·

-- without periods
abbrev terms : Hint → Float → Terms
terms hint tolerance = record { hint = hint; tolerance = tolerance; u = Free; v = Free }

abbrev end : Float → Float → Float → Ending → End
end u v distance how = record { at = record { u = u; v = v; distance = distance }; ending = how }

-- the pair of the Square's point that is nearest to its mark, with its distance, where a run ends unchanged
abbrev foot : End
foot = end ¼· ½· ¾· Unchanged

-- where the Dot's run ends, singular again after a nudge
abbrev stop : End
stop = end inside inside 5· SecondSingular

-- an end, and where its run came from: 0 for the hint, or the start's place
abbrev from : ℕ → End → Choice
from origin e = record { end = e; origin = origin }

abbrev collapsed : ℕ → Float → Vector3 → Float → Edge
collapsed k value point side = Collapsed (record { k = k; value = value; point = point; side = side })

-- the points of a surface's grid, with their distances from a mark
abbrev grid : Surface → Vector3 → Priced (List Start)
grid s m = survey m (evaluate_by s (scale_of s)) (values_u s) (values_v s)

-- ---- what a row says

-- input, and what is answered; a number is that of the refusal, 0 for none
pub data Case : Type 0 where
  weights : List Float → Weighed → ℕ → Case
  basis : Axis → Float → Sample → Case
  wraps : Float → Float → Case
  distances : Surface → Vector3 → Priced (List Float) → Case
  starts : Surface → Vector3 → Priced (List Start) → Case
  runs-end : Surface → Vector3 → List Start → Priced (List End) → Case
  -- a surface, a mark, a hint, a tolerance and a budget
  inverts : Surface → Vector3 → Hint → Float → ℕ → Placing → ℕ → Case
  derives : Surface → Float → Float → Vector3 → Components → ℕ → Case
  collapses : Surface → Float → Edges → Case
  nearest : Float → Float → Float → Case
  roots : Float → Float → Case

abbrev pub Holds : Case → Type 0
Holds (weights ws r number) = (weighed ws ≡ r) × (refusal_of r ≡ number)
Holds (basis a u r) = basis_at a Right u ≡ r
-- periodic, the domain 0 to 1
Holds (wraps t r) = wrapped true 0· 1· t ≡ r
-- of all points of the grid, in its order
Holds (distances s m r) = mapped (map (λ (p : Start). p.distance)) (grid s m) ≡ r
Holds (starts s m r) = mapped starts_of (grid s m) ≡ r
Holds (runs-end s m ss r) = runs (window_of s) m (evaluate_by s (scale_of s)) ss ≡ r
-- with no periods; nothing is left of the budget
Holds (inverts s m h t budget r number) = (placed s m (terms h t) budget ≡ r) × (Chart.number_of r ≡ number) × (Chart.left_of budget r ≡ 0)
-- with a budget of 1, of which nothing is left
Holds (derives s u v d r number) = (derived s u v d 1 ≡ r) × (number_of r ≡ number) × (left_of 1 r ≡ 0)
Holds (collapses s t r) = singular s t ≡ r
-- the period 1
Holds (nearest value hint r) = nearest_to value hint 1· ≡ r
Holds (roots x r) = root x ≡ r

-- every row of a list
pub data All : List Case → Type 0 where
  none : All []
  first : {c : Case} {cs : List Case} → Holds c → All cs → All (c ∷ cs)

infixr 5 ◌and◌
◌and◌ : {c : Case} {cs : List Case} → Holds c → All cs → All (c ∷ cs)
h and hs = first h hs

-- ---- the rows that take many steps

-- the root of n / 64
abbrev root64 : ℕ → Float
root64 n = root (fin false n (negsuc 5))

abbrev six : List Start
six =
    start_at ¾· ¼· ½·
    ∷ start_at (root64 37) ⅛· ½·
    ∷ start_at (root64 38) ⅛· ⅜·
    ∷ start_at (root64 40) 0· ½·
    ∷ start_at (root64 41) 0· ⅜·
    ∷ start_at (root64 44) 0· ¼·
    ∷ []

abbrev pub square-starts : Case
square-starts = starts square mark (answered six 81)

abbrev pub square-runs : Case
square-runs = runs-end square mark six (answered (replicate 6 foot) 11)

abbrev pub square-free : Case
square-free = inverts square mark Nothing ½· 92 (Placing.Pair (from 1 foot) 92) 0

abbrev pub square-short : Case
square-short = inverts square mark Nothing ½· 91 (Placing.Refusal 8 91) 8

abbrev pub square-far : Case
square-far = inverts square mark (At ¼· ½·) ½· 94 (Placing.Pair (from 0 foot) 94) 0

abbrev pub dot-distances : Case
dot-distances = distances dot dot-mark (answered (replicate 81 5·) 81)

abbrev pub dot-starts : Case
dot-starts = starts dot dot-mark (answered (start_at 5· 0· 0· ∷ []) 81)

abbrev pub dot-free : Case
dot-free = inverts dot dot-mark Nothing 0· 83 (Placing.Pair (from 1 stop) 83) 0

abbrev pub square-edges : Case
square-edges = collapses square ½· (Found (collapsed 0 0· (at ½· 0· 0·) 1·) (collapsed 0 1· (at ½· 1· 0·) (neg 1·)) (collapsed 1 0· (at 0· ½· 0·) 1·) (collapsed 1 1· (at 1· ½· 0·) (neg 1·)))

abbrev pub square-open : Case
square-open = collapses square under-half (Found Open Open Open Open)

abbrev pub stretched-refused : Case
stretched-refused = inverts stretched mark Nothing ½· 3 (Placing.Refusal 9 3) 9

abbrev pub stretched-short : Case
stretched-short = inverts stretched mark Nothing ½· 2 (Placing.Refusal 8 2) 8

-- ---- all rows, in document 01's order, by its words

abbrev pub rows : List Case
rows =
    -- "Weights 2^-1074 and 1: accepted."
    weights (least ∷ 1· ∷ []) (Scale 1·) 0
    -- "2^-1074 and 2: refusal 4, the quotient rounds to 0"
    ∷ weights (least ∷ 2· ∷ []) Refused 4
    -- "Degree 2, knots 0 0 0 1 1 1, u = 0.5: values 0.25 0.5 0.25, first -1 0 1, second 2 -4 2"
    ∷ basis quadratic ½· (sample 0 (three ¼· (neg 1·) 2· ∷ three ½· 0· (neg 4·) ∷ three ¼· 1· 2· ∷ []))
    -- "Periodic, domain 0 to 1: 1.25 reads as 0.25, -0.25 as 0.75, and 1 stays 1"
    ∷ wraps (fin false 5 (negsuc 1)) ¼·
    ∷ wraps (neg ¼·) ¾·
    ∷ wraps 1· 1·
    -- "Square, mark (0.25, 0.5, 0.75), no hint: pair (0.25, 0.5), price 92 (81 for the grid, 11 for six runs)"; the run from the first start, which ends unchanged
    ∷ square-starts
    ∷ square-runs
    ∷ square-free
    -- "Budget 91: refusal 8, 0 left."
    ∷ square-short
    -- "With hint (0.25, 0.5): tolerance 0.75, price 1"
    ∷ inverts square mark (At ¼· ½·) ¾· 1 (Placing.Pair (from 0 foot) 1) 0
    -- "tolerance 0.5, price 94"
    ∷ square-far
    -- "Hint (0.5, 0.5), tolerance 0.75: price 2"
    ∷ inverts square mark (At ½· ½·) ¾· 2 (Placing.Pair (from 0 foot) 2) 0
    -- "Dot, mark (3, 4, 0), no hint: all distances 5, one start, pair (0.0000005, 0.0000005), price 83"
    ∷ dot-distances
    ∷ dot-starts
    ∷ dot-free
    -- "`derivative`, square at (0.25, 0.5), vector (3, 5, 7): (3, 5)"
    ∷ derives square ¼· ½· (at 3· 5· 7·) (Along 3· 5·) 0
    -- "Dot: refusal 10"
    ∷ derives dot ¼· ½· (at 3· 5· 7·) (Refusal 10 1) 10
    -- "`nurbs_singular`, square: all four edges at tolerance 0.5, none just below"
    ∷ square-edges
    ∷ square-open
    -- "`nearest`, period 1: value 0 goes to 1 for hint 0.5, to 0 for 0.49999999999999994, to -1 for -0.5."
    ∷ nearest 0· ½· 1·
    ∷ nearest 0· under-half 0·
    ∷ nearest 0· (neg ½·) (neg 1·)
    -- "Value -0 stays -0 for hint -0.3 and becomes +0 for 0.3"
    ∷ nearest -0· (neg three-tenths) -0·
    ∷ nearest -0· three-tenths 0·
    -- "Root of 2^-1074 is 2^-537; of +0, +0; of infinity, infinity"
    ∷ roots least (fin false 1 (negsuc 536))
    ∷ roots 0· 0·
    ∷ roots (inf false) (inf false)
    -- "Knots 0 0 1.7e308 1.7e308 in v, else the square, no hint: the third v overflows, refusal 9, price 3."
    ∷ stretched-refused
    ∷ stretched-short
    ∷ []

-- ---- an inversion by its starts and their runs, so that a grid is evaluated in one lemma and not again

module _ (s : Surface) (m : Vector3) (t : Float) (ss : List Start) (n : ℕ) (es : List End) (j : ℕ) (h : Holds (starts s m (answered ss n))) (r : Holds (runs-end s m ss (answered es j))) where
  abbrev chosen : Best → ℕ → Priced Choice
  chosen best k = after n (after j (choose k (led best (numbered 1 es))))

  without-hint : inversion_by s (scale_of s) m Nothing t ≡ chosen Best.Nothing 0
  unfolding inversion_by plain_steps explored searched ◌then◌
  without-hint = rw (h, r)

  -- the hint's run ends further than the tolerance
  with-hint : (u v : Float) (e : End) (k : ℕ) → run (window_of s) m (evaluate_by s (scale_of s)) u v ≡ answered e k → le e.at.distance t ≡ false → inversion_by s (scale_of s) m (At u v) t ≡ after k (chosen (Best.At (from 0 e)) k)
  unfolding inversion_by plain_steps hinted unless_close explored searched ◌then◌
  with-hint u v e k i f = rw (i, f, h, r)

-- ---- the call by its plain steps

module _ (s : Surface) (m : Vector3) (hint : Hint) (t : Float) (p : Priced Choice) (ok : refusal_of_surface s ≡ 0) (sound : sound_search m (terms hint t) ≡ true) (steps : inversion_by s (scale_of s) m hint t ≡ p) where
  enough : placed s m (terms hint t) (price p) ≡ result_of (terms hint t) p
  enough = rw steps at (answer-enough (terms hint t) s ok m sound (price p) (rw steps (omega arith)))

  short : (budget : ℕ) → budget < price p → placed s m (terms hint t) budget ≡ Placing.Refusal 8 budget
  short budget l = answer-short (terms hint t) s ok m sound budget (rw steps l)

-- ---- the rows that take many steps, proved

square-starts-hold : Holds square-starts
unfolding compute
square-starts-hold = refl

square-runs-hold : Holds square-runs
unfolding compute
square-runs-hold = refl

square-steps : inversion_by square (scale_of square) mark Nothing ½· ≡ answered (from 1 foot) 92
unfolding compute
square-steps = without-hint square mark ½· six 81 _ 11 square-starts-hold square-runs-hold ∙ refl

square-free-holds : Holds square-free
unfolding compute
square-free-holds = (enough square mark Nothing ½· (answered (from 1 foot) 92) refl refl square-steps, refl, refl)

square-short-holds : Holds square-short
unfolding compute
square-short-holds = (short square mark Nothing ½· (answered (from 1 foot) 92) refl refl square-steps 91 (omega arith), refl, refl)

square-far-steps : inversion_by square (scale_of square) mark (At ¼· ½·) ½· ≡ answered (from 0 foot) 94
unfolding compute
square-far-steps = with-hint square mark ½· six 81 _ 11 square-starts-hold square-runs-hold ¼· ½· foot 1 refl refl ∙ refl

square-far-holds : Holds square-far
unfolding compute
square-far-holds = (enough square mark (At ¼· ½·) ½· (answered (from 0 foot) 94) refl refl square-far-steps, refl, refl)

abbrev eighths : List Float
eighths = 0· ∷ ⅛· ∷ ¼· ∷ ⅜· ∷ ½· ∷ ⅝· ∷ ¾· ∷ ⅞· ∷ 1· ∷ []

-- each u with each v, at distance 5
abbrev points : List Float → List Float → List Start
points [] vs = []
points (x ∷ xs) vs = map (start_at 5· x) vs ++ points xs vs

dot-points : grid dot dot-mark ≡ answered (points eighths eighths) 81
unfolding compute
dot-points = refl

dot-distances-hold : Holds dot-distances
unfolding mapped
dot-distances-hold = rw dot-points

dot-starts-hold : Holds dot-starts
unfolding mapped Shortlist.compute
dot-starts-hold = ap (mapped starts_of) dot-points ∙ refl

dot-steps : inversion_by dot (scale_of dot) dot-mark Nothing 0· ≡ answered (from 1 stop) 83
unfolding compute
dot-steps = without-hint dot dot-mark 0· _ 81 (stop ∷ []) 2 dot-starts-hold refl ∙ refl

dot-free-holds : Holds dot-free
unfolding compute
dot-free-holds = (enough dot dot-mark Nothing 0· (answered (from 1 stop) 83) refl refl dot-steps, refl, refl)

square-edges-hold : Holds square-edges
unfolding Edges.compute
square-edges-hold = refl

square-open-holds : Holds square-open
unfolding Edges.compute
square-open-holds = refl

stretched-steps : inversion_by stretched (scale_of stretched) mark Nothing ½· ≡ refused 3
unfolding compute
stretched-steps = refl

stretched-refused-holds : Holds stretched-refused
unfolding compute
stretched-refused-holds = (enough stretched mark Nothing ½· (refused 3) refl refl stretched-steps, refl, refl)

stretched-short-holds : Holds stretched-short
unfolding compute
stretched-short-holds = (short stretched mark Nothing ½· (refused 3) refl refl stretched-steps 2 (omega arith), refl, refl)

-- ---- the table

pub table : All rows
unfolding compute
table =
    (refl, refl)
    and (refl, refl)
    and refl
    and refl
    and refl
    and refl
    and square-starts-hold
    and square-runs-hold
    and square-free-holds
    and square-short-holds
    and (refl, refl, refl)
    and square-far-holds
    and (refl, refl, refl)
    and dot-distances-hold
    and dot-starts-hold
    and dot-free-holds
    and (refl, refl, refl)
    and (refl, refl, refl)
    and square-edges-hold
    and square-open-holds
    and refl
    and refl
    and refl
    and refl
    and refl
    and refl
    and refl
    and refl
    and stretched-refused-holds
    and stretched-short-holds
    and none
