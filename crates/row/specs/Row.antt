-- A row of marks on one surface: what it writes of each mark that it places, and how it ends. Definitions only.
use Rattle.std.specs.Prelude.{ℕ, zero, suc, ◌+◌, ◌*◌, ◌/◌, ◌%◌, Bool, not, ◌||◌, List, [], ◌∷◌, ◌++◌, ltb, eqb, length, drop, Float}
use Rattle.vector3.specs.declared.Vector3.{Vector3}
use Rattle.surface.specs.Surface.{Surface, or_else, when, refusal_of_surface}
use Rattle.newton.specs.Run.{ending_number}
use Rattle.inversion.specs.declared.Choice.{Choice}
use Rattle.chart.specs.declared.Terms.{Terms}
use Rattle.chart.specs.Chart.{sound_terms}
use Rattle.row_step.specs.declared.Progress.{Progress}
use Rattle.row_step.specs.declared.Stepped.{Stepped}
use Rattle.row_step.specs.declared.Stepped.TheVariants.{Placed, Refusal}
use Rattle.row_step.specs.Step.{stepped}
use Rattle.row.specs.declared.RowEnd.{RowEnd}

-- a mark's answer, and the budget left after it
pub record Entry : Type 0 where
  pub choice : Choice
  pub left : ℕ

-- the entries of the marks placed, and how the row ended
pub record Rowed : Type 0 where
  pub pairs : List Entry
  pub ended : RowEnd

-- three coordinates a mark
unfoldable pub marks_of : List Float → List Vector3
marks_of [] = []
marks_of (x ∷ []) = []
marks_of (x ∷ (y ∷ [])) = []
marks_of (x ∷ (y ∷ (z ∷ rest))) = record { x = x; y = y; z = z } ∷ marks_of rest

-- ---- the marks one after another

-- a refusal of mark number i ends the row
abbrev pub refused_at : ℕ → ℕ → ℕ → Rowed
refused_at i number left = record { pairs = []; ended = RowEnd.Refusal number i left }

abbrev pub preceded : Entry → Rowed → Rowed
preceded p rest = record { pairs = p ∷ rest.pairs; ended = rest.ended }

-- mark number i was answered
unfoldable pub and_then : ℕ → (Progress → Rowed) → Stepped → Rowed
and_then i rest (Placed c p) = preceded (record { choice = c; left = p.left }) (rest p)
and_then i rest (Refusal number left) = refused_at i number left

-- the marks from number i on
unfoldable pub in_turn : Surface → ℕ → List Vector3 → Progress → Rowed
in_turn s i [] p = record { pairs = []; ended = RowEnd.Placed p.left }
in_turn s i (mark ∷ marks) p = and_then i (in_turn s (i + 1) marks) (stepped s mark p)

-- ---- tested once at the start, also where there are no marks

-- a test's number, 0 for none, refuses with index 0 and the budget as it was
unfoldable pub unless_refused : ℕ → ℕ → (ℕ → Rowed) → Rowed
unless_refused zero budget row = row budget
unless_refused (suc n) budget row = refused_at 0 (suc n) budget

-- the surface's numbers, and 7 for hint, tolerance or period
unfoldable pub rowed : Surface → List Vector3 → Terms → ℕ → Rowed
rowed s marks terms budget =
    unless_refused (or_else (refusal_of_surface s) (when (not (sound_terms terms)) 7)) budget (λ left. in_turn s 0 marks (record { terms = terms; left = left }))

-- marks not in threes, an answer buffer under two numbers a mark, or a buffer of ends under two bytes a mark
unfoldable pub misfit : ℕ → ℕ → ℕ → Bool
misfit coordinates numbers bytes = not (eqb (coordinates % 3) 0) || ltb numbers (2 * (coordinates / 3)) || ltb bytes (2 * (coordinates / 3))

-- the row itself: the marks' coordinates, and buffers of so many numbers and bytes
unfoldable pub row_into : Surface → List Float → ℕ → ℕ → Terms → ℕ → Rowed
row_into s coordinates numbers bytes terms budget = unless_refused (when (misfit (length coordinates) numbers bytes) 11) budget (rowed s (marks_of coordinates) terms)

-- ---- the two buffers

module _ {A : Type 0} (first second : Choice → A) where
  -- two of each mark placed, in order
  unfoldable pub listed : List Entry → List A
  listed [] = []
  listed (p ∷ ps) = first p.choice ∷ (second p.choice ∷ listed ps)

  -- and all later ones as they were
  unfoldable pub written : List Entry → List A → List A
  written ps buffer = listed ps ++ drop (2 * length ps) buffer

abbrev pub u_of : Choice → Float
u_of c = c.end.at.u

abbrev pub v_of : Choice → Float
v_of c = c.end.at.v

abbrev pub end_of : Choice → ℕ
end_of c = ending_number c.end.ending

abbrev pub origin_of : Choice → ℕ
origin_of c = c.origin

-- what a row answers, and what it leaves in the buffers that it is lent: u and v of each mark placed, and its end and origin
pub record Left : Type 0 where
  pub ended : RowEnd
  pub answers : List Float
  pub ends : List ℕ

abbrev pub leaving : Rowed → List Float → List ℕ → Left
leaving r answers ends = record { ended = r.ended; answers = written u_of v_of r.pairs answers; ends = written end_of origin_of r.pairs ends }

-- ---- 01's values of how a row ended: its number, 0 where every mark was placed, the index of the mark refused, and the budget left

unfoldable pub number_of : RowEnd → ℕ
number_of (RowEnd.Placed left) = 0
number_of (RowEnd.Refusal number i left) = number

unfoldable pub index_of : RowEnd → ℕ
index_of (RowEnd.Placed left) = 0
index_of (RowEnd.Refusal number i left) = i

unfoldable pub left_of : RowEnd → ℕ
left_of (RowEnd.Placed left) = left
left_of (RowEnd.Refusal number i left) = left
