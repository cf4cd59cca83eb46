-- The edges of a surface's domain that collapse to one point, by nine samples each. Definitions only.
use Rattle.std.specs.Prelude.{ℕ, zero, suc, Bool, true, false, cond, ◌&&◌, List, [], ◌∷◌, ◌++◌, Float}
use Rattle.std.specs.Float.Ieee.{le, neg}
use Rattle.float64.specs.Operators.{0·, 1·}
use Rattle.float64.specs.Functions.{is_finite}
use Rattle.vector3.specs.declared.Vector3.{Vector3}
use Rattle.vector3.specs.Vector3.{distance}
use Rattle.patch.specs.declared.Evaluated.{Evaluated}
use Rattle.patch.specs.declared.Evaluated.TheVariants as Eval
use Rattle.surface.specs.declared.Checked.{Checked}
use Rattle.surface.specs.declared.Checked.TheVariants as Check
use Rattle.domain.specs.declared.Interval.{Interval}
use Rattle.surface.specs.Surface.{Surface, checked, evaluate_by, domain_of}
use Rattle.domain.specs.Intervals.{eighth_of}
use Rattle.edges.specs.declared.side.Line.{Line}
use Rattle.edges.specs.declared.Singular.{Singular}
use Rattle.edges.specs.declared.Edge.{Edge}
use Rattle.edges.specs.declared.Edge.TheVariants.{Open, Collapsed}
use Rattle.edges.specs.declared.Edges.{Edges}
use Rattle.edges.specs.declared.Edges.TheVariants.{Found, Refusal}

-- ---- one edge: along axis k, 0 for u and 1 for v, where the parameter across it has one value

abbrev pub line : ℕ → Interval → Float → Line
line k along value = record { k = k; along = along; value = value }

-- found, and no further from a point than the tolerance
unfoldable pub near : Float → Vector3 → Evaluated → Bool
near tolerance p Eval.Refused = false
near tolerance p (Eval.Found j) = le (distance j.point p) tolerance

-- the surface lies at larger values where side is 1, at smaller ones where it is -1
abbrev pub singular_at : Line → Float → Vector3 → Singular
singular_at l side p = record { k = l.k; value = l.value; point = p; side = side }

module _ (eval : Float → Float → Evaluated) where
  -- at t along the axis
  unfoldable pub jet_at : ℕ → Float → Float → Evaluated
  jet_at zero value t = eval t value
  jet_at (suc k) value t = eval value t

  -- sample number i of nine, in eighths from the lower end on; where the last rounds to above the upper end, the evaluation wraps or snaps it
  abbrev pub jet_on : Line → ℕ → Evaluated
  jet_on l i = jet_at l.k l.value (eighth_of l.along.low l.along.high i)

  -- n samples from number i on
  unfoldable pub all_near : Line → Float → Vector3 → ℕ → ℕ → Bool
  all_near l tolerance p zero i = true
  all_near l tolerance p (suc n) i = near tolerance p (jet_on l i) && all_near l tolerance p n (suc i)

  -- held against the middle sample; a refused one, wherever it stands, leaves the edge open
  unfoldable pub edge_by : Float → Line → Float → Evaluated → Edge
  edge_by tolerance l side Eval.Refused = Open
  edge_by tolerance l side (Eval.Found j) = cond (all_near l tolerance j.point 9 0) (Collapsed (singular_at l side j.point)) Open

  unfoldable pub edge_of : Float → Line → Float → Edge
  edge_of tolerance l side = edge_by tolerance l side (jet_on l 4)

-- ---- the call

-- in the source's order
unfoldable pub edges_of : Surface → Float → Float → Edges
edges_of s m tolerance =
    let edge = edge_of (evaluate_by s m) tolerance in
    let d = domain_of s in
    Found
    (edge (line 0 d.u d.v.low) 1·)
    (edge (line 0 d.u d.v.high) (neg 1·))
    (edge (line 1 d.v d.u.low) 1·)
    (edge (line 1 d.v d.u.high) (neg 1·))

-- check 7
unfoldable pub sound_tolerance : Float → Bool
sound_tolerance tolerance = is_finite tolerance && le 0· tolerance

unfoldable pub tested : Surface → Float → Float → Bool → Edges
tested s m tolerance sound = cond sound (edges_of s m tolerance) (Refusal 7)

unfoldable pub singular_by : Surface → Checked → Float → Edges
singular_by s (Check.Refusal n) tolerance = Refusal n
singular_by s (Check.Scale m) tolerance = tested s m tolerance (sound_tolerance tolerance)

unfoldable pub singular : Surface → Float → Edges
singular s tolerance = singular_by s (checked s) tolerance

-- ---- 01's values of an answer: its number, 0 where the edges are told, and the source's list, in which an open edge is left out

unfoldable pub number_of : Edges → ℕ
number_of (Found a b c d) = 0
number_of (Refusal n) = n

unfoldable pub collapsed : Edge → List Singular
collapsed Open = []
collapsed (Collapsed s) = s ∷ []

unfoldable pub list_of : Edges → List Singular
list_of (Found a b c d) = collapsed a ++ collapsed b ++ collapsed c ++ collapsed d
list_of (Refusal n) = []
