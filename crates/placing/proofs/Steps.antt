-- The two cases of each call: an argument does not fit, or the answer is laid out. Assumes nothing.
use mathlib.Core.Path.{◌≡◌, refl, sym, ap, ◌∙◌}
use mathlib.Core.Bool.{Bool, true, false}
use mathlib.Core.List.{List, ◌++◌}
use Prim.Native.Nat.{ℕ, ◌≤◌}
use native.Mathlib.Omega.{arith}
use lib.ListN.{length, take, get_or}
use lib.Ieee.{Float}
use Rattle.vector3.specs.declared.Vector3.{Vector3}
use Rattle.domain.specs.declared.Window.{Window}
use Rattle.domain.specs.declared.Shape.{Shape}
use Rattle.domain.specs.Flags.{shape_of}
use Rattle.quotation.specs.declared.Quotation.{Quotation}
use Rattle.quotation.specs.Quote.{quoted}
use Rattle.surface.specs.declared.Evaluation.{Evaluation}
use Rattle.surface.specs.Surface.{surface, bare, evaluated}
use Rattle.chart.specs.declared.Terms.{Terms}
use Rattle.chart.specs.declared.Placing.{Placing}
use Rattle.chart.specs.Chart as Chart
use Rattle.inverter.specs.declared.Components.{Components}
use Rattle.inverter.specs.Inverter.{placed}
use Rattle.inverter.specs.Inverter as Inverter
use Rattle.inverter.specs.Preimage.{derived}
use Rattle.row.specs.declared.RowEnd.{RowEnd}
use Rattle.row.specs.Row.{Rowed, row_into, Left, leaving, number_of, index_of, left_of}
use Rattle.edges.specs.declared.Edges.{Edges}
use Rattle.edges.specs.Edges.{singular}
use Rattle.job.specs.Printout.{most_printed, printout}
use Rattle.job.specs.PrintLaws.{front}
use Rattle.laid.specs.declared.answers.Answer.{Answer}
use Rattle.laid.specs.Laid.{Quotes, Evaluates, Places, Tells, Prints, quote_into, jet_into, answer_of_placing, answer_of_components, end_into, taken_of, answer_into, first_of, edges_into, printout_into}
use Rattle.placing.specs.Boundary.{Inverts, Rows, quotes_if, evaluates_if, places_if, inverts_if, rows_if, tells_if, prints_if}

-- ---- a quote

abbrev quotes : ℕ → List ℕ → Quotes
quotes number quote = record { number = number; quote = quote }

module _ (found : Quotation) (ns : List ℕ) {b fit : Bool} (e : b ≡ fit) where
  pub quote-unfit : b ≡ false → quotes 99 ns ≡ quotes_if fit found ns
  unfolding quotes_if
  quote-unfit h = rw (sym e ∙ h) refl

  pub quote-fits : b ≡ true → {q : Quotation} → q ≡ found → {n : ℕ} {ms : List ℕ} → quotes n ms ≡ quote_into q ns → quotes n ms ≡ quotes_if fit found ns
  unfolding quotes_if
  quote-fits h k l = rw (sym e ∙ h) (rw (sym k) l)

-- ---- an evaluation

abbrev jets : ℕ → List Float → Evaluates
jets number jet = record { number = number; jet = jet }

module _ (found : Evaluation) (xs : List Float) {b fit : Bool} (e : b ≡ fit) where
  pub jet-unfit : b ≡ false → jets 99 xs ≡ evaluates_if fit found xs
  unfolding evaluates_if
  jet-unfit h = rw (sym e ∙ h) refl

  pub jet-fit : b ≡ true → {q : Evaluation} → q ≡ found → {n : ℕ} {ys : List Float} → jets n ys ≡ jet_into q xs → jets n ys ≡ evaluates_if fit found xs
  unfolding evaluates_if
  jet-fit h k l = rw (sym e ∙ h) (rw (sym k) l)

-- ---- on the shape, and by the terms, that were read

pub shape-read : (du dv nu nv flags : ℕ) {s : Shape} {w x : Window} → s ≡ shape_of du dv nu nv flags w → w ≡ x → s ≡ shape_of du dv nu nv flags x
shape-read du dv nu nv flags e f = e ∙ ap (shape_of du dv nu nv flags) f

pub quoted-by : (ku kv : List Float) (hinted : Bool) {s t : Shape} → s ≡ t → {q : Quotation} → q ≡ quoted (bare s ku kv) hinted → q ≡ quoted (bare t ku kv) hinted
quoted-by ku kv hinted h e = e ∙ ap (λ x. quoted (bare x ku kv) hinted) h

module _ (ku kv cs ws : List Float) {s t : Shape} (h : s ≡ t) where
  pub evaluated-by : (u v : Float) {q : Evaluation} → q ≡ evaluated (surface s ku kv cs ws) u v → q ≡ evaluated (surface t ku kv cs ws) u v
  evaluated-by u v e = e ∙ ap (λ x. evaluated (surface x ku kv cs ws) u v) h

  pub singular-by : (tolerance : Float) {q : Edges} → q ≡ singular (surface s ku kv cs ws) tolerance → q ≡ singular (surface t ku kv cs ws) tolerance
  singular-by tolerance e = e ∙ ap (λ x. singular (surface x ku kv cs ws) tolerance) h

  pub derived-by : (u v : Float) (d : Vector3) (b : ℕ) {c : Components} → c ≡ derived (surface s ku kv cs ws) u v d b → c ≡ derived (surface t ku kv cs ws) u v d b
  derived-by u v d b e = e ∙ ap (λ x. derived (surface x ku kv cs ws) u v d b) h

  module _ {k l : Terms} (i : k ≡ l) where
    pub placed_by : (mark : Vector3) (b : ℕ) {p : Placing} → p ≡ placed (surface s ku kv cs ws) mark k b → p ≡ placed (surface t ku kv cs ws) mark l b
    placed_by mark b e = e ∙ ap (λ x. placed (surface x ku kv cs ws) mark k b) h ∙ ap (λ x. placed (surface t ku kv cs ws) mark x b) i

    pub rowed-by : (marks : List Float) (numbers bytes b : ℕ) → row_into (surface s ku kv cs ws) marks numbers bytes k b ≡ row_into (surface t ku kv cs ws) marks numbers bytes l b
    rowed-by marks numbers bytes b = ap (λ x. row_into (surface x ku kv cs ws) marks numbers bytes k b) h ∙ ap (λ x. row_into (surface t ku kv cs ws) marks numbers bytes x b) i

-- ---- a pair for units of a budget

placing-taken : (p : Placing) → taken_of (answer_of_placing p) ≡ Chart.taken_of p
unfolding answer_of_placing
placing-taken (Placing.Pair c n) = refl
placing-taken (Placing.Refusal number n) = refl

components-taken : (c : Components) → taken_of (answer_of_components c) ≡ Inverter.taken_of c
unfolding answer_of_components
components-taken (Components.Along x y) = refl
components-taken (Components.Refusal number n) = refl

module _ {a : Answer} {b : ℕ} where
  pub took-placing : {p q : Placing} → a ≡ answer_of_placing p → p ≡ q → Chart.taken_of q ≤ b → taken_of a ≤ b
  took-placing {p} e h l = omega (arith, ap taken_of e, placing-taken p, ap Chart.taken_of h, l)

  pub took-components : {p q : Components} → a ≡ answer_of_components p → p ≡ q → Inverter.taken_of q ≤ b → taken_of a ≤ b
  took-components {p} e h l = omega (arith, ap taken_of e, components-taken p, ap Inverter.taken_of h, l)

abbrev leaves : ℕ → List ℕ → List Float → Places
leaves number budget pair = record { number = number; budget = budget; pair = pair }

module _ (call : ℕ → Answer) (bs : List ℕ) (xs : List Float) {b fit : Bool} (e : b ≡ fit) where
  pub unfit : b ≡ false → leaves 99 bs xs ≡ places_if fit call bs xs
  unfolding places_if
  unfit h = rw (sym e ∙ h) refl

  pub fits : b ≡ true → {a : Answer} → a ≡ call (get_or bs 0 0) → {n : ℕ} {cs : List ℕ} {ys : List Float} → leaves n cs ys ≡ answer_into a bs xs → leaves n cs ys ≡ places_if fit call bs xs
  unfolding places_if
  fits h q l = rw (sym e ∙ h) (rw (sym q) l)

-- ---- an inversion

abbrev finds : ℕ → List ℕ → List Float → List ℕ → Inverts
finds number budget pair ended = record { number = number; budget = budget; pair = pair; ended = ended }

same-finds : {n : ℕ} {cs : List ℕ} {ys : List Float} {es : List ℕ} {a : Places} {ds : List ℕ} → leaves n cs ys ≡ a → es ≡ ds → finds n cs ys es ≡ finds a.number a.budget a.pair ds
same-finds h k = rw (← h, k) refl

module _ (call : ℕ → Placing) (bs : List ℕ) (xs : List Float) (es : List ℕ) {b fit : Bool} (e : b ≡ fit) where
  pub inversion-unfit : b ≡ false → finds 99 bs xs es ≡ inverts_if fit call bs xs es
  unfolding inverts_if
  inversion-unfit h = rw (sym e ∙ h) refl

  pub inversion-fits : b ≡ true → {p : Placing} → p ≡ call (get_or bs 0 0) → {a : Answer} → a ≡ answer_of_placing p → {ds : List ℕ} → ds ≡ end_into p es
      → {n : ℕ} {cs : List ℕ} {ys : List Float} → leaves n cs ys ≡ answer_into a bs xs → finds n cs ys ds ≡ inverts_if fit call bs xs es
  unfolding inverts_if
  inversion-fits h q f g l = rw (sym e ∙ h) (rw (sym q) (same-finds (rw f at l) g))

-- ---- a row

abbrev ends : ℕ → List ℕ → List ℕ → List Float → List ℕ → Rows
ends number budget index answers ended = record { number = number; budget = budget; index = index; answers = answers; ends = ended }

alike : {k n : ℕ} {bs cs ns ms : List ℕ} {xs ys : List Float} {es ds : List ℕ} → k ≡ n → bs ≡ cs → ns ≡ ms → xs ≡ ys → es ≡ ds → ends k bs ns xs es ≡ ends n cs ms ys ds
alike h i j k l = rw (h, i, j, k, l) refl

module _ (row : ℕ → Rowed) (bs ns : List ℕ) (xs : List Float) (es : List ℕ) {b fit : Bool} (e : b ≡ fit) where
  pub row-unfit : b ≡ false → ends 99 bs ns xs es ≡ rows_if fit row bs ns xs es
  unfolding rows_if
  row-unfit h = rw (sym e ∙ h) refl

  pub row_fits : b ≡ true → {r : Rowed} → r ≡ row (get_or bs 0 0) → {d : RowEnd} {ys : List Float} {ds : List ℕ} → record { ended = d; answers = ys; ends = ds } ≡ leaving r xs es
      → {n : ℕ} {cs ms : List ℕ} → (n ≡ number_of d) × ((cs ≡ first_of (left_of d) bs) × (ms ≡ first_of (index_of d) ns)) → ends n cs ms ys ds ≡ rows_if fit row bs ns xs es
  unfolding rows_if
  row_fits h q w l =
      rw (sym e ∙ h) (rw (sym q)
      (rw (← ap (λ (m : Left). m.ended) w) (alike l.0 l.1.0 l.1.1 (ap (λ (m : Left). m.answers) w) (ap (λ (m : Left). m.ends) w))))

-- ---- the edges

abbrev tell : ℕ → List ℕ → List Float → Tells
tell number collapsed edges = record { number = number; collapsed = collapsed; edges = edges }

module _ (found : Edges) (ns : List ℕ) (xs : List Float) {b fit : Bool} (e : b ≡ fit) where
  pub edges-unfit : b ≡ false → tell 99 ns xs ≡ tells_if fit found ns xs
  unfolding tells_if
  edges-unfit h = rw (sym e ∙ h) refl

  pub edges_fit : b ≡ true → {q : Edges} → q ≡ found → {n : ℕ} {ms : List ℕ} {ys : List Float} → tell n ms ys ≡ edges_into q ns xs → tell n ms ys ≡ tells_if fit found ns xs
  unfolding tells_if
  edges_fit h k l = rw (sym e ∙ h) (rw (sym k) l)

-- ---- a job

abbrev prints : ℕ → List ℕ → List ℕ → Prints
prints number printout written = record { number = number; printout = printout; written = written }

pub job-unfit : (text xs ns : List ℕ) {b fit : Bool} → b ≡ fit → b ≡ false → prints 99 xs ns ≡ prints_if fit text xs ns
unfolding prints_if
job-unfit text xs ns e h = rw (sym e ∙ h) refl

pub job-fits : (file rest : List ℕ) {text : List ℕ} {n : ℕ} → (text ≡ printout file ++ rest) × ((n ≡ length (printout file)) × (n ≤ most_printed)) → (xs ns : List ℕ) {b fit : Bool} → b ≡ fit → b ≡ true
    → {k : ℕ} {ys ms : List ℕ} → prints k ys ms ≡ printout_into (take n text) xs ns → prints k ys ms ≡ prints_if fit (printout file) xs ns
unfolding prints_if
job-fits file rest p xs ns e h q = rw (sym e ∙ h) (q ∙ ap (λ t. printout_into t xs ns) (front file rest p))
