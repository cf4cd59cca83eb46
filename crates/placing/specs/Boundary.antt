-- What each call answers and leaves in what it is lent: 99 where an argument does not fit, before any other check and with nothing written, and else its answer, laid out. Definitions only.
use Rattle.std.specs.Prelude.{ℕ, Bool, true, false, List, eqb, length, get_or, Float}
use Rattle.vector3.specs.declared.Vector3.{Vector3}
use Rattle.quotation.specs.declared.Quotation.{Quotation}
use Rattle.quotation.specs.Quote.{quoted}
use Rattle.surface.specs.declared.Evaluation.{Evaluation}
use Rattle.surface.specs.Surface.{Surface, evaluated}
use Rattle.chart.specs.declared.Placing.{Placing}
use Rattle.inverter.specs.declared.plane.Frame.{Frame}
use Rattle.inverter.specs.Inverter.{placed}
use Rattle.inverter.specs.Plane.{placed_on}
use Rattle.inverter.specs.Preimage.{derived}
use Rattle.row.specs.Row.{Rowed, row_into, leaving, number_of, index_of, left_of}
use Rattle.edges.specs.declared.Edges.{Edges}
use Rattle.edges.specs.Edges.{singular}
use Rattle.job.specs.Printout.{printout}
use Rattle.lent.specs.Lent.{terms_of, roomy, fits_quote, fits_jet, fits_inversion, fits_row, fits_derivative, fits_edges, fits_job}
use Rattle.laid.specs.declared.answers.Answer.{Answer}
use Rattle.laid.specs.Laid.{Quotes, quote_into, Evaluates, jet_into, Places, answer_of_placing, answer_of_components, end_into, answer_into, first_of, Tells, edges_into, Prints, printout_into}

abbrev pub vector : Float → Float → Float → Vector3
vector x y z = record { x = x; y = y; z = z }

-- of a surface a call takes its flags and the count of its window, which it tests, beside what was read of both

-- ---- a quote, of a surface without its controls and weights

unfoldable pub quotes_if : Bool → Quotation → List ℕ → Quotes
quotes_if false q quote = record { number = 99; quote = quote }
quotes_if true q quote = quote_into q quote

unfoldable pub quotes : (flags window hinted : ℕ) → Surface → List ℕ → Quotes
quotes flags window hinted s quote = quotes_if (fits_quote flags window hinted (length quote)) (quoted s (eqb hinted 1)) quote

-- ---- an evaluation

unfoldable pub evaluates_if : Bool → Evaluation → List Float → Evaluates
evaluates_if false e jet = record { number = 99; jet = jet }
evaluates_if true e jet = jet_into e jet

unfoldable pub evaluates : (flags window : ℕ) → Surface → Float → Float → List Float → Evaluates
evaluates flags window s u v jet = evaluates_if (fits_jet flags window (length jet)) (evaluated s u v) jet

-- ---- a pair for units of a budget

-- what a call answers, of the budget that is lent
unfoldable pub places_if : Bool → (ℕ → Answer) → List ℕ → List Float → Places
places_if false call budget pair = record { number = 99; budget = budget; pair = pair }
places_if true call budget pair = answer_into (call (get_or budget 0 0)) budget pair

-- and an inversion's two bytes
pub record Inverts : Type 0 where
  pub number : ℕ
  pub budget : List ℕ
  pub pair : List Float
  pub ended : List ℕ

unfoldable pub inverts_if : Bool → (ℕ → Placing) → List ℕ → List Float → List ℕ → Inverts
inverts_if false call budget pair ended = record { number = 99; budget = budget; pair = pair; ended = ended }
inverts_if true call budget pair ended =
    let p = call (get_or budget 0 0) in
    let a = answer_into (answer_of_placing p) budget pair in
    record { number = a.number; budget = a.budget; pair = a.pair; ended = end_into p ended }

unfoldable pub inverts : (flags window : ℕ) → Surface → Vector3 → (hint : List Float) → Float → (pu pv : List Float) → List ℕ → List Float → List ℕ → Inverts
inverts flags window s mark hint tolerance pu pv budget pair ended =
    inverts_if (fits_inversion flags window (length hint) (length pu) (length pv) (length budget) (length pair) (length ended)) (placed s mark (terms_of hint tolerance pu pv)) budget pair ended

unfoldable pub derives : (flags window : ℕ) → Surface → Float → Float → Vector3 → List ℕ → List Float → Places
derives flags window s u v d budget pair = places_if (fits_derivative flags window (length budget) (length pair)) (λ b. answer_of_components (derived s u v d b)) budget pair

unfoldable pub locates : Frame → Vector3 → List ℕ → List Float → Places
locates f mark budget pair = places_if (roomy (length budget) (length pair)) (λ b. answer_of_components (placed_on f mark b)) budget pair

-- ---- a row

-- the number of its refusal, 0 where there is none, and the lent numbers afterwards
pub record Rows : Type 0 where
  pub number : ℕ
  pub budget : List ℕ
  pub index : List ℕ
  pub answers : List Float
  pub ends : List ℕ

unfoldable pub rows_if : Bool → (ℕ → Rowed) → List ℕ → List ℕ → List Float → List ℕ → Rows
rows_if false row budget index answers ends = record { number = 99; budget = budget; index = index; answers = answers; ends = ends }
rows_if true row budget index answers ends =
    let l = leaving (row (get_or budget 0 0)) answers ends in
    record { number = number_of l.ended; budget = first_of (left_of l.ended) budget; index = first_of (index_of l.ended) index; answers = l.answers; ends = l.ends }

unfoldable pub rows : (flags window : ℕ) → Surface → (marks hint : List Float) → Float → (pu pv : List Float) → List ℕ → List ℕ → List Float → List ℕ → Rows
rows flags window s marks hint tolerance pu pv budget index answers ends =
    rows_if (fits_row flags window (length hint) (length pu) (length pv) (length budget) (length index)) (row_into s marks (length answers) (length ends) (terms_of hint tolerance pu pv)) budget index answers ends

-- ---- the edges

unfoldable pub tells_if : Bool → Edges → List ℕ → List Float → Tells
tells_if false found collapsed edges = record { number = 99; collapsed = collapsed; edges = edges }
tells_if true found collapsed edges = edges_into found collapsed edges

unfoldable pub tells : (flags window : ℕ) → Surface → Float → List ℕ → List Float → Tells
tells flags window s tolerance collapsed edges = tells_if (fits_edges flags window (length collapsed) (length edges)) (singular s tolerance) collapsed edges

-- ---- a job

unfoldable pub prints_if : Bool → List ℕ → List ℕ → List ℕ → Prints
prints_if false text out written = record { number = 99; printout = out; written = written }
prints_if true text out written = printout_into text out written

unfoldable pub prints : (file out written : List ℕ) → Prints
prints file out written = prints_if (fits_job (length out) (length written)) (printout file) out written
