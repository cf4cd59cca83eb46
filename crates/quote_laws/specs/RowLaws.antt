-- A row's units are within the first mark's quote and a hinted quote for each later mark, for all input. Assumes nothing.
use Rattle.std.specs.Prelude.{◌≡◌, Bool, not, length, Float}
use Rattle.std.proofs.Math.Path.{refl}
use Rattle.std.proofs.Common.{◌∙◌}
use Rattle.std.proofs.Math.Bool.{true, false}
use mathlib.Core.List.{List, [], ◌∷◌}
use Prim.Native.Nat.{ℕ, zero, suc, ◌+◌, ◌-◌, ◌*◌, ◌≤◌}
use Rattle.std.proofs.Math.Nat.{suc-mul}
use native.Mathlib.Omega.{arith}
use Rattle.vector3.specs.declared.Vector3.{Vector3}
use Rattle.surface.specs.Surface.{Surface, or_else, when, refusal_of_surface}
use Rattle.inversion.specs.declared.Hint.{Hint}
use Rattle.inversion.specs.declared.Hint.TheVariants.{Nothing, At}
use Rattle.chart.specs.declared.Terms.{Terms}
use Rattle.chart.specs.declared.Placing.{Placing}
use Rattle.chart.specs.declared.Placing.TheVariants.{Pair, Refusal}
use Rattle.chart.specs.Chart.{sound_terms}
use Rattle.chart.specs.Chart as Chart
use Rattle.inverter.specs.Inverter.{placed}
use Rattle.row_step.specs.declared.Progress.{Progress}
use Rattle.row_step.specs.Step.{led_by, step_by, stepped}
use Rattle.row.specs.Row.{Rowed, marks_of, and_then, in_turn, unless_refused, rowed, misfit, row_into, number_of, left_of}
use Rattle.quotation.specs.declared.Costing.{Costing}
use Rattle.quotation.specs.declared.Quotation.TheVariants.{Quoted}
use Rattle.quotation.specs.Quote.{grid_size, margin, quoted}
use Rattle.quote_laws.specs.Quotes.{has_hint, quoted_for, quotes_of}
use Rattle.quote_laws.specs.GridLaws.{quoted-sized}
use Rattle.quote_laws.specs.PriceLaws.{surface-not-eight, WithinQuote, placed-within, taken-within-quote}

-- a row takes at most so much of its budget, and with that much is never short
pub record WithinQuotes (budget most : ℕ) (r : Rowed) : Type 0 where
  pub units : budget - left_of r.ended ≤ most
  pub enough : most ≤ budget → number_of r.ended ≡ 8 → ⊥

-- ---- mark by mark

module _ (i n a : ℕ) (rest : Progress → Rowed) (more : (q : Progress) → WithinQuotes q.left n (rest q)) (p : Progress) where
  then-within : (g : Placing) → WithinQuote p.left a g → WithinQuotes p.left (a + n) (and_then i rest (step_by p g))
  unfolding and_then step_by number_of left_of Chart.number_of
  then-within (Pair c t) h =
      let m = more (record { terms = led_by p.terms c; left = p.left - t }) in
      record { units = omega (arith, h.taken, m.units); enough = λ l. m.enough (omega (arith, h.taken)) }
  then-within (Refusal number t) h = record { units = omega (arith, h.taken); enough = λ l. h.enough (omega arith) }

module _ (s : Surface) where
  abbrev later : ℕ
  later = grid_size s + margin true

  -- with a hint or without
  any-within : (mark : Vector3) (terms : Terms) (budget : ℕ) → WithinQuote budget later (placed s mark terms budget)
  unfolding margin
  any-within mark terms budget = let w = placed-within s mark terms budget in by terms.hint w.taken w.enough
    where
      by : (hint : Hint) → Chart.taken_of (placed s mark terms budget) ≤ grid_size s + margin (has_hint hint) → (grid_size s + margin (has_hint hint) ≤ budget → Chart.number_of (placed s mark terms budget) ≡ 8 → ⊥)
          → WithinQuote budget later (placed s mark terms budget)
      by Nothing t e = record { taken = omega arith; enough = λ l. e (omega arith) }
      by (At u v) t e = record { taken = t; enough = e }

  later-within : (i : ℕ) (marks : List Vector3) (p : Progress) → WithinQuotes p.left (length marks * later) (in_turn s i marks p)
  unfolding in_turn stepped number_of left_of
  later-within i [] p = record { units = omega arith; enough = λ l e. omega arith }
  later-within i (m ∷ marks) p =
      let w = then-within i (length marks * later) later (in_turn s (i + 1) marks) (later-within (i + 1) marks) p (placed s m p.terms p.left) (any-within m p.terms p.left) in
      record { units = omega (arith, w.units, suc-mul (length marks) later); enough = λ l. w.enough (omega (arith, suc-mul (length marks) later)) }

-- ---- the row

unless-within : (number budget most : ℕ) (row : ℕ → Rowed) → (number ≡ 8 → ⊥) → WithinQuotes budget most (row budget) → WithinQuotes budget most (unless_refused number budget row)
unfolding unless_refused number_of left_of
unless-within zero budget most row h w = w
unless-within (suc k) budget most row h w = record { units = omega arith; enough = λ l. h }

module _ (s : Surface) (terms : Terms) (budget : ℕ) (first hinted : Costing) (is : quoted_for s terms ≡ Quoted first) (too : quoted s true ≡ Quoted hinted) where
  abbrev quotes : ℕ → ℕ
  quotes = quotes_of first.most hinted.most

  begun : Progress
  begun = record { terms = terms; left = budget }

  turns-within : (marks : List Vector3) → WithinQuotes budget (quotes (length marks)) (in_turn s 0 marks begun)
  unfolding in_turn stepped number_of left_of quotes_of begun
  turns-within [] = record { units = omega arith; enough = λ l e. omega arith }
  turns-within (m ∷ marks) =
      rw (quoted-sized s true hinted too).most
      (then-within 0 (length marks * later s) first.most (in_turn s (0 + 1) marks) (later-within s (0 + 1) marks) begun (placed s m terms budget) (taken-within-quote s m terms first is budget))

  -- the tests at the start refuse with one of the surface's numbers or 7
  start-not : (t : Bool) → or_else (refusal_of_surface s) (when (not t) 7) ≡ 8 → ⊥
  unfolding or_else
  start-not t = by (refusal_of_surface s) refl t
    where
      by : (n : ℕ) → refusal_of_surface s ≡ n → (t : Bool) → or_else n (when (not t) 7) ≡ 8 → ⊥
      by zero e true z = omega arith
      by zero e false z = omega arith
      by (suc k) e t z = surface-not-eight s (e ∙ z)

  pub rowed-within-quotes : (marks : List Vector3) → WithinQuotes budget (quotes (length marks)) (rowed s marks terms budget)
  unfolding rowed begun
  rowed-within-quotes marks = unless-within _ budget _ _ (start-not (sound_terms terms)) (turns-within marks)

  -- a row's units are at most the first mark's quote and a hinted quote for each later mark; with that much for its budget it never answers 8
  pub row-within-quotes : (coordinates : List Float) (numbers bytes : ℕ) → WithinQuotes budget (quotes (length (marks_of coordinates))) (row_into s coordinates numbers bytes terms budget)
  unfolding row_into
  row-within-quotes coordinates numbers bytes = unless-within _ budget _ _ (by (misfit (length coordinates) numbers bytes)) (rowed-within-quotes (marks_of coordinates))
    where
      by : (t : Bool) → when t 11 ≡ 8 → ⊥
      by true e = omega arith
      by false e = omega arith
