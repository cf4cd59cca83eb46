-- What a quote, an evaluation, a pair, an end and a job write. Assumes nothing.
use mathlib.Core.Path.{◌≡◌, refl, ◌∙◌}
use mathlib.Core.List.{List, [], ◌∷◌}
use Prim.Native.Nat.{ℕ, zero, suc, ◌-◌, ◌≤◌, ◌<◌}
use native.Mathlib.Nat.{zero-add}
use native.Mathlib.Omega.{arith}
use lib.ListN.{length, get_or, set, length-set}
use lib.Ieee.{Float, nan}
use Rattle.quotation.specs.declared.Costing.{Costing}
use Rattle.quotation.specs.declared.Quotation.{Quotation}
use Rattle.patch.specs.declared.Jet.{Jet}
use Rattle.surface.specs.declared.Evaluation.{Evaluation}
use Rattle.inversion.specs.declared.Choice.{Choice}
use Rattle.chart.specs.declared.Placing.{Placing}
use Rattle.row.specs.Row.{end_of, origin_of}
use Rattle.digits.specs.Text.{Put, written}
use Rattle.laid.specs.declared.answers.Answer.{Answer}
use Rattle.laid.specs.declared.answers.Answer.TheVariants.{Pair, Refusal}
use Rattle.laid.specs.Laid.{Quotes, Evaluates, Places, Prints, quote_into, numbers_of, jet_into, end_into, answer_into, printout_into}

-- ---- a quote

abbrev quotes : ℕ → List ℕ → Quotes
quotes number quote = record { number = number; quote = quote }

pub quote-refused : (ns : List ℕ) {q : Quotation} {n : ℕ} → q ≡ Quotation.Refusal n → quotes n ns ≡ quote_into q ns
unfolding quote_into
quote-refused ns h = rw h refl

pub quote-laid : (ns : List ℕ) {q : Quotation} {c : Costing} → 2 ≤ length ns → q ≡ Quotation.Quoted c → quotes 0 (set (set ns 0 c.grid) 1 c.most) ≡ quote_into q ns
unfolding quote_into
quote-laid [] l h = absurd (omega arith)
quote-laid (a ∷ []) l h = absurd (omega arith)
quote-laid (a ∷ (b ∷ ns)) l h = rw h refl

-- ---- an evaluation

-- once k numbers of it are written
abbrev pub begun : ℕ → List Float → Jet → List Float
begun zero xs j = xs
begun (suc k) xs j = set (begun k xs j) k (get_or (numbers_of j) k nan)

begun-length : (k : ℕ) (xs : List Float) (j : Jet) → length (begun k xs j) ≡ length xs
begun-length zero xs j = refl
begun-length (suc k) xs j = length-set (begun k xs j) k (get_or (numbers_of j) k nan) ∙ begun-length k xs j

pub ninth : (k : ℕ) (xs : List Float) (j : Jet) → k < 9 → 9 ≤ length xs → k < length (begun k xs j)
ninth k xs j l h = omega (arith, begun-length k xs j)

-- the number that is answered, and what the lent numbers are then
abbrev jets : ℕ → List Float → Evaluates
jets number jet = record { number = number; jet = jet }

pub jet-refused : (xs : List Float) {e : Evaluation} {n : ℕ} → e ≡ Evaluation.Refusal n → jets n xs ≡ jet_into e xs
unfolding jet_into
jet-refused xs h = rw h refl

pub jet-found : (xs : List Float) {e : Evaluation} {j : Jet} → 9 ≤ length xs → e ≡ Evaluation.Found j → jets 0 (begun 9 xs j) ≡ jet_into e xs
unfolding jet_into
jet-found [] l h = absurd (omega arith)
jet-found (a ∷ []) l h = absurd (omega arith)
jet-found (a ∷ (b ∷ [])) l h = absurd (omega arith)
jet-found (a ∷ (b ∷ (c ∷ []))) l h = absurd (omega arith)
jet-found (a ∷ (b ∷ (c ∷ (d ∷ [])))) l h = absurd (omega arith)
jet-found (a ∷ (b ∷ (c ∷ (d ∷ (e ∷ []))))) l h = absurd (omega arith)
jet-found (a ∷ (b ∷ (c ∷ (d ∷ (e ∷ (f ∷ [])))))) l h = absurd (omega arith)
jet-found (a ∷ (b ∷ (c ∷ (d ∷ (e ∷ (f ∷ (g ∷ []))))))) l h = absurd (omega arith)
jet-found (a ∷ (b ∷ (c ∷ (d ∷ (e ∷ (f ∷ (g ∷ (i ∷ [])))))))) l h = absurd (omega arith)
jet-found (a ∷ (b ∷ (c ∷ (d ∷ (e ∷ (f ∷ (g ∷ (i ∷ (k ∷ xs))))))))) l h = rw h refl

-- ---- a pair for units of a budget

abbrev leaves : ℕ → List ℕ → List Float → Places
leaves number budget pair = record { number = number; budget = budget; pair = pair }

pub laid-refusal : (bs : List ℕ) (xs : List Float) {p : Answer} {n t : ℕ} → 1 ≤ length bs → p ≡ Refusal n t → leaves n (set bs 0 (get_or bs 0 0 - t)) xs ≡ answer_into p bs xs
unfolding answer_into
laid-refusal [] xs l h = absurd (omega arith)
laid-refusal (b ∷ bs) xs l h = rw h refl

pub laid-pair : (bs : List ℕ) (xs : List Float) {p : Answer} {u v : Float} {t : ℕ} → 1 ≤ length bs → 2 ≤ length xs → p ≡ Pair u v t → leaves 0 (set bs 0 (get_or bs 0 0 - t)) (set (set xs 0 u) 1 v) ≡ answer_into p bs xs
unfolding answer_into
laid-pair [] xs l k h = absurd (omega arith)
laid-pair (b ∷ bs) [] l k h = absurd (omega arith)
laid-pair (b ∷ bs) (x ∷ []) l k h = absurd (omega arith)
laid-pair (b ∷ bs) (x ∷ (y ∷ xs)) l k h = rw h refl

-- ---- how a run ended, and where it came from

pub end_kept : (xs : List ℕ) {p : Placing} {n t : ℕ} → p ≡ Placing.Refusal n t → xs ≡ end_into p xs
unfolding end_into
end_kept xs h = rw h refl

pub end-told : (xs : List ℕ) {p : Placing} {c : Choice} {t k : ℕ} → 2 ≤ length xs → k ≡ end_of c → p ≡ Placing.Pair c t → set (set xs 0 k) 1 (origin_of c) ≡ end_into p xs
unfolding end_into
end-told [] l e h = absurd (omega arith)
end-told (x ∷ []) l e h = absurd (omega arith)
end-told (x ∷ (y ∷ xs)) l e h = rw (h, e) refl

-- ---- a job

abbrev prints : ℕ → List ℕ → List ℕ → Prints
prints number printout written = record { number = number; printout = printout; written = written }

pub laid-text : {text xs ys : List ℕ} {next : ℕ} (ns : List ℕ) → 1 ≤ length ns → Put 0 text xs ys next → prints 0 ys (set ns 0 (length text)) ≡ printout_into text xs ns
unfolding written printout_into
laid-text [] l p = absurd (omega arith)
laid-text (n ∷ ns) l p = rw p.whole (rw zero-add refl)
