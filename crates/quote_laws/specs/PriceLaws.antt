-- No price exceeds its quote: what an inversion takes, for all input, and that with the quote for a budget it is never short. Assumes nothing.
use Rattle.std.specs.Prelude.{◌≡◌, Bool, not, cond, ◌||◌, leb, ltb, eqb}
use Rattle.std.proofs.Math.Path.{refl}
use Rattle.std.proofs.Common.{◌∙◌, leb-true, leb-false}
use Rattle.std.proofs.Math.Bool.{true, false}
use Prim.Native.Nat.{ℕ, zero, suc, ◌+◌, ◌≤◌}
use native.Mathlib.Omega.{arith}
use Rattle.vector3.specs.declared.Vector3.{Vector3}
use Rattle.price.specs.Price.{Priced, refused, answered}
use Rattle.price.specs.Price as Price
use Rattle.spline.specs.declared.weights.Weighed.{Weighed}
use Rattle.spline.specs.Weights.{weighed, refusal_of}
use Rattle.spline.specs.Knots.{Axis, all_finite, accepted_knots, refusal_of_knots}
use Rattle.domain.specs.Windows.{misfits}
use Rattle.surface.specs.Surface.{Surface, axis_u, axis_v, domain_of, scale_of, or_else, when, too_large, miscounted, refusal_of_surface, judged, checked}
use Rattle.inversion.specs.declared.Hint.{Hint}
use Rattle.inversion.specs.declared.Hint.TheVariants.{Nothing, At}
use Rattle.inversion.specs.declared.Choice.{Choice}
use Rattle.inversion.proofs.PriceLaws.{runs_for}
use Rattle.inversion.proofs.SurfaceLaws.{price-by-grid}
use Rattle.chart.specs.declared.Terms.{Terms}
use Rattle.chart.specs.declared.Placing.{Placing}
use Rattle.chart.specs.Chart.{sound_search, placed_by, taken_of, number_of}
use Rattle.inverter.specs.Inverter.{on_checked, placed}
use Rattle.inverter.specs.PlacingLaws.{steps_of, result_of, answer-enough, answer-short}
use Rattle.quotation.specs.declared.Costing.{Costing}
use Rattle.quotation.specs.declared.Quotation.TheVariants.{Quoted}
use Rattle.quotation.specs.Quote.{grid_size, margin}
use Rattle.quote_laws.specs.Quotes.{has_hint, quoted_for}
use Rattle.quote_laws.specs.GridLaws.{quoted-sized}

-- ---- no check of a surface refuses with 8

neither-eight : (m n : ℕ) → (m ≡ 8 → ⊥) → (n ≡ 8 → ⊥) → or_else m n ≡ 8 → ⊥
unfolding or_else
neither-eight zero n a b e = b e
neither-eight (suc k) n a b e = a e

when-not : (t : Bool) (n : ℕ) → (n ≡ 8 → ⊥) → when t n ≡ 8 → ⊥
when-not true n h e = h e
when-not false n h e = omega arith

weights-not : (w : Weighed) → refusal_of w ≡ 8 → ⊥
unfolding refusal_of
weights-not (Weighed.Scale m) e = omega arith
weights-not Weighed.Refused e = omega arith

knots-not : (a : Axis) → refusal_of_knots a ≡ 8 → ⊥
unfolding refusal_of_knots
knots-not a = by (eqb a.degree 0 || ltb 16 a.degree) (accepted_knots a)
  where
    by : (d t : Bool) → ◌≡◌ {A = ℕ} (cond d 5 (cond t 0 6)) 8 → ⊥
    by true t e = omega arith
    by false true e = omega arith
    by false false e = omega arith

pub surface-not-eight : (s : Surface) → refusal_of_surface s ≡ 8 → ⊥
unfolding refusal_of_surface
surface-not-eight s =
    neither-eight _ _ (when-not (too_large s) 1 (λ z. omega arith))
    (neither-eight _ _ (when-not (miscounted s) 2 (λ z. omega arith))
    (neither-eight _ _ (when-not (not (all_finite s.controls)) 3 (λ z. omega arith))
    (neither-eight _ _ (weights-not (weighed s.weights))
    (neither-eight _ _ (knots-not (axis_u s)) (neither-eight _ _ (knots-not (axis_v s)) (when-not (misfits s.shape.window (domain_of s)) 24 (λ z. omega arith)))))))

-- ---- an inversion

-- it takes at most so much, and with that much is never short
pub record WithinQuote (budget most : ℕ) (g : Placing) : Type 0 where
  pub taken : taken_of g ≤ most
  pub enough : most ≤ budget → number_of g ≡ 8 → ⊥

module _ (s : Surface) (mark : Vector3) (terms : Terms) where
  abbrev most : ℕ
  most = grid_size s + margin (has_hint terms.hint)

  price-most : refusal_of_surface s ≡ 0 → Price.price (steps_of s mark terms) ≤ most
  unfolding grid_size runs_for margin
  price-most ok = omega (arith, (price-by-grid s (scale_of s) ok mark terms.hint terms.tolerance).under, by terms.hint)
    where
      by : (hint : Hint) → runs_for hint ≡ margin (has_hint hint)
      by Nothing = refl
      by (At u v) = refl

  module _ (budget : ℕ) where
    paid-within : refusal_of_surface s ≡ 0 → (p : Priced Choice) → Price.price p ≤ most → WithinQuote budget most (result_of terms p)
    unfolding number_of
    paid-within ok (refused n) h = record { taken = h; enough = λ l e. omega arith }
    paid-within ok (answered c n) h = record { taken = h; enough = λ l e. omega arith }

    sound-within : refusal_of_surface s ≡ 0 → sound_search mark terms ≡ true → (t : Bool) → leb (Price.price (steps_of s mark terms)) budget ≡ t → WithinQuote budget most (placed s mark terms budget)
    sound-within ok sound true e = rw (answer-enough terms s ok mark sound budget (leb-true _ _ e)) (paid-within ok (steps_of s mark terms) (price-most ok))
    sound-within ok sound false e =
        let short = leb-false _ _ e in
        let p = price-most ok in
        rw (answer-short terms s ok mark sound budget short) (record { taken = omega arith; enough = λ l z. omega arith })

    terms-within : refusal_of_surface s ≡ 0 → (t : Bool) → sound_search mark terms ≡ t → WithinQuote budget most (placed s mark terms budget)
    unfolding placed checked judged on_checked placed_by number_of
    terms-within ok true e = sound-within ok e (leb (Price.price (steps_of s mark terms)) budget) refl
    terms-within ok false e = simp (ok, e) (record { taken = omega arith; enough = λ l z. omega arith })

    pub placed-within : WithinQuote budget most (placed s mark terms budget)
    unfolding placed checked judged on_checked number_of
    placed-within = by (refusal_of_surface s) refl
      where
        by : (n : ℕ) → refusal_of_surface s ≡ n → WithinQuote budget most (placed s mark terms budget)
        by zero e = terms-within e (sound_search mark terms) refl
        by (suc k) e = simp e (record { taken = omega arith; enough = λ l z. surface-not-eight s (e ∙ z) })

  module _ (q : Costing) (is : quoted_for s terms ≡ Quoted q) where
    quote-is : q.most ≡ most
    quote-is = (quoted-sized s (has_hint terms.hint) q is).most

    -- "No accepted input's price exceeds its quote"
    pub price-within-quote : refusal_of_surface s ≡ 0 → sound_search mark terms ≡ true → Price.price (steps_of s mark terms) ≤ q.most
    price-within-quote ok sound = rw quote-is (price-most ok)

    -- and whatever the input and the budget, the call takes no more units, and with the quote for a budget never answers 8
    pub taken-within-quote : (budget : ℕ) → WithinQuote budget q.most (placed s mark terms budget)
    taken-within-quote budget = rw quote-is (placed-within budget)
