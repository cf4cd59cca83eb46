-- Demand 3 of the call itself: one price and one result whatever the budget; and what a shift by periods moves by. Assumes nothing.
use Rattle.std.specs.Prelude.{◌≡◌, Bool, ℕ, zero, suc, ◌-◌, ◌≤◌, ◌<◌, Float}
use Rattle.std.proofs.Math.Path.{refl, ap}
use Rattle.std.proofs.Common.{◌∙◌, arith}
use Rattle.std.proofs.Math.Bool.{true, false}
use Rattle.std.proofs.Math.Nat.{sub_self}
use Rattle.std.proofs.Math.Dec.{leb}
use Rattle.std.specs.Float.{binary64}
use Rattle.std.specs.Float.Ieee.Fits.{div-fits}
use borrow.Author.Tests.{leb-true, leb-false}
use Rattle.float64.specs.Operators.{◌⊕◌, ◌⊖◌, ◌⊗◌, ◌⊘◌}
use Rattle.float64.specs.Functions.{round_away}
use Rattle.float64.proofs.RoundLaws.{round-away-twice}
use Rattle.vector3.specs.declared.Vector3.{Vector3}
use Rattle.surface.specs.declared.Checked.{Checked}
use Rattle.surface.specs.declared.Checked.TheVariants as Check
use Rattle.surface.specs.Surface.{Surface, scale_of, refusal_of_surface, judged, checked, evaluate_by}
use Rattle.price.specs.Price.{Priced, refused, answered, Paid, paid, spend}
use Rattle.price.specs.Price as Price
use Rattle.price.specs.PriceLaws.{Between, spend-enough, spend-short}
use Rattle.price.specs.EvaluationLaws.{Evaluates}
use Rattle.inversion.specs.declared.Choice.{Choice}
use Rattle.inversion.specs.Inversion.{inversion_by, answer_of}
use Rattle.inversion.specs.Visits.{evaluations_by}
use Rattle.inversion.proofs.SurfaceLaws.{price-bounds, price-is-count}
use Rattle.chart.specs.declared.Terms.{Terms}
use Rattle.chart.specs.declared.Placing.{Placing}
use Rattle.chart.specs.declared.Placing.TheVariants.{Pair, Refusal}
use Rattle.chart.specs.Chart.{sound_search, nearest_to, turned, placing_of, placed_by, taken_of, number_of, left_of}
use Rattle.inverter.specs.Inverter.{on_checked, placed}

-- ---- the budget

-- what an inversion answers to a budget, by its price and its result
pub record OnePrice (answer : ℕ → Placing) (price : ℕ) (result : Placing) : Type 0 where
  pub bounds : Between 1 price 37513
  -- with the price or more the result, which takes exactly the price
  pub enough : (budget : ℕ) → price ≤ budget → (answer budget ≡ result) × (left_of budget result ≡ budget - price)
  -- with less refusal 8 and 0 left
  pub short : (budget : ℕ) → budget < price → (number_of (answer budget) ≡ 8) × (left_of budget (answer budget) ≡ 0)

-- 01's plain steps, with their price
abbrev pub steps_of : Surface → Vector3 → Terms → Priced Choice
steps_of s mark terms = inversion_by s (scale_of s) mark terms.hint terms.tolerance

-- what they chose, its pair shifted by periods; or 9
abbrev pub result_of : Terms → Priced Choice → Placing
result_of terms (refused n) = Refusal 9 n
result_of terms (answered c n) = Pair (turned terms c) n

module _ (terms : Terms) where
  paid-result : (budget : ℕ) (p : Priced Choice) → placing_of budget terms (answer_of (paid p)) ≡ result_of terms p
  unfolding placing_of answer_of
  paid-result budget (refused n) = refl
  paid-result budget (answered c n) = refl

  pub result-left : (budget : ℕ) (p : Priced Choice) → left_of budget (result_of terms p) ≡ budget - Price.price p
  unfolding left_of
  result-left budget (refused n) = refl
  result-left budget (answered c n) = refl

  module _ (s : Surface) (ok : refusal_of_surface s ≡ 0) (mark : Vector3) (sound : sound_search mark terms ≡ true) where
    abbrev steps : Priced Choice
    steps = steps_of s mark terms

    answer-is : (budget : ℕ) → placed s mark terms budget ≡ placing_of budget terms (answer_of (spend budget steps))
    unfolding placed checked judged on_checked placed_by
    answer-is budget = simp (ok, sound)

    -- with the price or more the call answers what the plain steps came to
    pub answer-enough : (budget : ℕ) → Price.price steps ≤ budget → placed s mark terms budget ≡ result_of terms steps
    answer-enough budget h = answer-is budget ∙ ap (λ (p : Paid Choice). placing_of budget terms (answer_of p)) (spend-enough budget steps h) ∙ paid-result budget steps

    -- with less it takes all units, and answers 8
    pub answer-short : (budget : ℕ) → budget < Price.price steps → placed s mark terms budget ≡ Refusal 8 budget
    unfolding placing_of answer_of
    answer-short budget h = answer-is budget ∙ ap (λ (p : Paid Choice). placing_of budget terms (answer_of p)) (spend-short budget steps h)

    -- "01's count of evaluations": the price is the number of pairs that the plain steps evaluate, in order; where they are answered all are found, and where not the last is refused and no other
    pub price-counts : Evaluates (evaluate_by s (scale_of s)) (steps_of s mark terms) (evaluations_by s (scale_of s) mark terms.hint terms.tolerance)
    price-counts = price-is-count s (scale_of s) ok mark terms.hint terms.tolerance

    -- "one price, .. 1 to 37,513, whatever its budget: with that much or more it gives the same result, that of 01's plain steps, and takes exactly the price, with less refusal 8 and 0 left"
    pub one-price : OnePrice (placed s mark terms) (Price.price (steps_of s mark terms)) (result_of terms (steps_of s mark terms))
    unfolding number_of left_of
    one-price = record {
      bounds = price-bounds s (scale_of s) ok mark terms.hint terms.tolerance;
      enough = λ budget h. (answer-enough budget h, result-left budget steps);
      short = λ budget h. (ap number_of (answer-short budget h), ap (left_of budget) (answer-short budget h) ∙ sub_self budget);
    }

-- ---- what an answer can be, whatever Q is to hold of it

module _ (Q : Placing → Type 0) (s : Surface) (mark : Vector3) (terms : Terms) (budget : ℕ) where
  pub record Cases : Type 0 where
    pub unfit : (n : ℕ) → checked s ≡ Check.Refusal n → Q (Refusal n 0)
    pub seven : Q (Refusal 7 0)
    pub eight : Q (Refusal 8 budget)
    pub nine : (n : ℕ) → n ≤ budget → Q (Refusal 9 n)
    pub pair : (m : Float) → checked s ≡ Check.Scale m → (c : Choice) (n : ℕ) → n ≤ budget → inversion_by s m mark terms.hint terms.tolerance ≡ answered c n → Q (Pair (turned terms c) n)

  module _ (q : Cases) where
    paid-by : (m : Float) → checked s ≡ Check.Scale m → (p : Priced Choice) → inversion_by s m mark terms.hint terms.tolerance ≡ p → Price.price p ≤ budget → Q (placing_of budget terms (answer_of (paid p)))
    unfolding placing_of answer_of
    paid-by m k (refused n) w h = q.nine n h
    paid-by m k (answered c n) w h = q.pair m k c n h w

    spend-by : (m : Float) → checked s ≡ Check.Scale m → (p : Priced Choice) → inversion_by s m mark terms.hint terms.tolerance ≡ p → Q (placing_of budget terms (answer_of (spend budget p)))
    unfolding placing_of answer_of
    spend-by m k p w = by (leb (Price.price p) budget) refl
      where
        by : (t : Bool) → leb (Price.price p) budget ≡ t → Q (placing_of budget terms (answer_of (spend budget p)))
        by true h = let l = leb-true (Price.price p) budget h in rw (spend-enough budget p l) (paid-by m k p w l)
        by false h = rw (spend-short budget p (leb-false (Price.price p) budget h)) q.eight

    sound-by : (m : Float) → checked s ≡ Check.Scale m → (t : Bool) → Q (placed_by s m mark terms budget t)
    unfolding placed_by
    sound-by m k true = spend-by m k (inversion_by s m mark terms.hint terms.tolerance) refl
    sound-by m k false = q.seven

    pub placed-by-cases : Q (placed s mark terms budget)
    unfolding placed on_checked
    placed-by-cases = by (checked s) refl
      where
        by : (c : Checked) → checked s ≡ c → Q (on_checked (λ n. Refusal n 0) c (λ m. placed_by s m mark terms budget (sound_search mark terms)))
        by (Check.Refusal n) k = q.unfit n k
        by (Check.Scale m) k = sound-by m k (sound_search mark terms)

-- ---- it takes no more than its budget, and its refusal has a number

abbrev pub Numbered : Placing → Type 0
Numbered (Pair c n) = Unit {0}
Numbered (Refusal number n) = 1 ≤ number

pub refusal-number : (s : Surface) (n : ℕ) → checked s ≡ Check.Refusal n → (refusal_of_surface s ≡ n) × (1 ≤ n)
unfolding checked judged
refusal-number s n h = by (refusal_of_surface s) h
  where
    by : (k : ℕ) → judged (scale_of s) k ≡ Check.Refusal n → (k ≡ n) × (1 ≤ n)
    by zero h = absurd (let z : ◌≡◌ {A = ℕ} 0 1 = cc in omega arith)
    by (suc k) h = let e : suc k ≡ n = cc in (e, omega arith)

pub placed-sound : (s : Surface) (mark : Vector3) (terms : Terms) (budget : ℕ) → (taken_of (placed s mark terms budget) ≤ budget) × Numbered (placed s mark terms budget)
placed-sound s mark terms budget =
    placed-by-cases (λ g. (taken_of g ≤ budget) × Numbered g) s mark terms budget
    (record {
      unfit = λ n h. (omega arith, (refusal-number s n h).1);
      seven = (omega arith, omega arith);
      eight = (omega arith, omega arith);
      nine = λ n l. (l, omega arith);
      pair = λ m k c n l w. (l, tt);
    })

-- ---- the shift by periods

-- a value moves by a period times a whole number, which rounding leaves as it is, or an infinity or a NaN, and by nothing else
pub record Moved (value period result : Float) : Type 0 where
  pub turns : Float
  pub whole : round_away turns ≡ turns
  pub is : result ≡ value ⊕ period ⊗ turns

pub nearest-moves : (value hint period : Float) → Moved value period (nearest_to value hint period)
unfolding nearest_to
nearest-moves value hint period = record {
  turns = round_away ((hint ⊖ value) ⊘ period);
  whole = round-away-twice ((hint ⊖ value) ⊘ period) (div-fits binary64 (hint ⊖ value) period);
  is = refl;
}
