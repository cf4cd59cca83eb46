-- How an answer is laid out in what a caller lends. Definitions only.
use Rattle.std.specs.Prelude.{ℕ, ◌+◌, ◌-◌, List, [], ◌∷◌, ◌++◌, length, take, drop, get_or, Float}
use Rattle.quotation.specs.declared.Quotation.{Quotation}
use Rattle.patch.specs.declared.Jet.{Jet}
use Rattle.surface.specs.declared.Evaluation.{Evaluation}
use Rattle.chart.specs.declared.Placing.{Placing}
use Rattle.inverter.specs.declared.Components.{Components}
use Rattle.row.specs.Row.{u_of, v_of, end_of, origin_of}
use Rattle.edges.specs.declared.Edge.{Edge}
use Rattle.edges.specs.declared.Edge.TheVariants.{Open, Collapsed}
use Rattle.edges.specs.declared.Edges.{Edges}
use Rattle.laid.specs.declared.answers.Answer.{Answer}
use Rattle.laid.specs.declared.answers.Answer.TheVariants.{Pair, Refusal}

-- ---- a quote

-- the number of its refusal, 0 where there is none, and the lent numbers afterwards
pub record Quotes : Type 0 where
  pub number : ℕ
  pub quote : List ℕ

-- the grid's size and the largest price, then all later numbers as they were
unfoldable pub quote_into : Quotation → List ℕ → Quotes
quote_into (Quotation.Refusal n) quote = record { number = n; quote = quote }
quote_into (Quotation.Quoted q) quote = record { number = 0; quote = q.grid ∷ (q.most ∷ drop 2 quote) }

-- ---- an evaluation

-- the number of its refusal, 0 where there is none, and the lent numbers afterwards
pub record Evaluates : Type 0 where
  pub number : ℕ
  pub jet : List Float

-- the point, the derivative along u and that along v
abbrev pub numbers_of : Jet → List Float
numbers_of j = j.point.x ∷ (j.point.y ∷ (j.point.z ∷ (j.u.x ∷ (j.u.y ∷ (j.u.z ∷ (j.v.x ∷ (j.v.y ∷ (j.v.z ∷ []))))))))

-- then all later numbers as they were
unfoldable pub jet_into : Evaluation → List Float → Evaluates
jet_into (Evaluation.Refusal n) jet = record { number = n; jet = jet }
jet_into (Evaluation.Found j) jet = record { number = 0; jet = numbers_of j ++ drop 9 jet }

-- ---- a pair for units of a budget

-- the number of its refusal, 0 where there is none, and the lent numbers afterwards
pub record Places : Type 0 where
  pub number : ℕ
  pub budget : List ℕ
  pub pair : List Float

unfoldable pub answer_of_placing : Placing → Answer
answer_of_placing (Placing.Pair c taken) = Pair (u_of c) (v_of c) taken
answer_of_placing (Placing.Refusal number taken) = Refusal number taken

-- its end and its origin, then all later bytes as they were
unfoldable pub end_into : Placing → List ℕ → List ℕ
end_into (Placing.Pair c taken) ended = end_of c ∷ (origin_of c ∷ drop 2 ended)
end_into (Placing.Refusal number taken) ended = ended

-- components are answered for one unit
unfoldable pub answer_of_components : Components → Answer
answer_of_components (Components.Along a b) = Pair a b 1
answer_of_components (Components.Refusal number taken) = Refusal number taken

abbrev pub taken_of : Answer → ℕ
taken_of (Pair a b taken) = taken
taken_of (Refusal number taken) = taken

-- the first of the lent numbers, then all later ones as they were
abbrev pub first_of : ℕ → List ℕ → List ℕ
first_of n ns = n ∷ drop 1 ns

-- the budget left, and the pair, then all later numbers as they were
unfoldable pub answer_into : Answer → List ℕ → List Float → Places
answer_into (Pair a b taken) budget pair = record { number = 0; budget = first_of (get_or budget 0 0 - taken) budget; pair = a ∷ (b ∷ drop 2 pair) }
answer_into (Refusal number taken) budget pair = record { number = number; budget = first_of (get_or budget 0 0 - taken) budget; pair = pair }

-- ---- the edges

-- the number of its refusal, 0 where there is none, and the lent numbers afterwards
pub record Tells : Type 0 where
  pub number : ℕ
  pub collapsed : List ℕ
  pub edges : List Float

-- 1 where an edge collapses
unfoldable pub flag_of : Edge → ℕ
flag_of Open = 0
flag_of (Collapsed e) = 1

-- five numbers of an edge that collapses, from number i on, all others as they were: the value across it, the point, the side
unfoldable pub edge_at : ℕ → Edge → List Float → List Float
edge_at i Open edges = edges
edge_at i (Collapsed e) edges = take i edges ++ e.value ∷ (e.point.x ∷ (e.point.y ∷ (e.point.z ∷ (e.side ∷ drop (i + 5) edges))))

unfoldable pub edges_into : Edges → List ℕ → List Float → Tells
edges_into (Edges.Refusal n) collapsed edges = record { number = n; collapsed = collapsed; edges = edges }
edges_into (Edges.Found a b c d) collapsed edges =
    record { number = 0; collapsed = flag_of a ∷ (flag_of b ∷ (flag_of c ∷ (flag_of d ∷ drop 4 collapsed))); edges = edge_at 15 d (edge_at 10 c (edge_at 5 b (edge_at 0 a edges))) }

-- ---- a job

-- the number that is answered, and the lent bytes and numbers afterwards
pub record Prints : Type 0 where
  pub number : ℕ
  pub printout : List ℕ
  pub written : List ℕ

-- the text, then all later bytes as they were, and how long the text is
unfoldable pub printout_into : List ℕ → List ℕ → List ℕ → Prints
printout_into text printout written = record { number = 0; printout = text ++ drop (length text) printout; written = first_of (length text) written }
