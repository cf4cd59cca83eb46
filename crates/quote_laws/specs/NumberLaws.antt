-- Which number a quote answers, and that it is the same whatever the controls and weights are. Assumes nothing.
use Rattle.std.specs.Prelude.{◌≡◌, Bool, ◌↔◌}
use Rattle.std.proofs.Math.Path.{refl}
use Rattle.std.proofs.Common.{sym, ◌∙◌, subst}
use Prim.Native.Nat.{ℕ, zero, suc}
use Rattle.surface.specs.Surface.{Surface, bare, or_else, when, too_large, refusal_of_axes}
use Rattle.surface.specs.Refusals.{None}
use Rattle.surface.specs.NumberLaws.{none-one, line-one, tested, large, axes-tested, or_else_none}
use Rattle.quotation.specs.Quote.{refusal_of_quote, grid_size, quoted_by, quoted, number_of}
use Rattle.quote_laws.specs.Quotes.{QuoteLines}

module _ (s : Surface) (hinted : Bool) where
  -- "From the knots alone"
  pub knots-alone : quoted s hinted ≡ quoted (bare s.shape s.knots_u s.knots_v) hinted
  unfolding quoted refusal_of_quote too_large quoted_by grid_size
  knots-alone = by (or_else (when (too_large s) 1) (refusal_of_axes s.shape s.knots_u s.knots_v))
    where
      by : (n : ℕ) → quoted_by s hinted n ≡ quoted_by (bare s.shape s.knots_u s.knots_v) hinted n
      by zero = refl
      by (suc n) = refl

  number_is : number_of (quoted s hinted) ≡ refusal_of_quote s
  unfolding quoted quoted_by number_of
  number_is = by (refusal_of_quote s)
    where
      by : (n : ℕ) → number_of (quoted_by s hinted n) ≡ n
      by zero = refl
      by (suc n) = refl

  quote-tested : QuoteLines s (refusal_of_quote s)
  unfolding refusal_of_quote
  quote-tested = tested _ _ (rw or_else_none at (axes-tested s None 0 refl)) 0 _ (large s)

  -- "A number is returned where its line holds and never elsewhere"
  pub quote-number : (n : ℕ) → QuoteLines s n ↔ (number_of (quoted s hinted) ≡ n)
  quote-number n = (
    λ h. number_is ∙ line-one (line-one (line-one (line-one (line-one (line-one none-one))))) _ _ quote-tested h,
    λ e. subst (QuoteLines s) (sym number_is ∙ e) quote-tested,
  )
