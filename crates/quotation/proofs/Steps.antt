-- The checks of a quote one by one, and what is answered. Assumes nothing.
use mathlib.Core.Path.{◌≡◌, refl, sym}
use mathlib.Core.Bool.{Bool, true, false}
use Prim.Native.Nat.{ℕ, zero, suc, ◌+◌}
use Rattle.surface.specs.Surface.{Surface, or_else, too_large, refusal_of_axes}
use Rattle.quotation.specs.declared.Quotation.TheVariants.{Quoted, Refusal}
use Rattle.quotation.specs.Quote.{refusal_of_quote, grid_size, margin, quoted_by, quoted}
use Rattle.quotation.specs.QuoteLaws.{sized-quoted}

module _ (s : Surface) (hinted : Bool) where
  pub large : too_large s ≡ true → Refusal 1 ≡ quoted s hinted
  unfolding quoted quoted_by refusal_of_quote or_else
  large t = rw t

  module _ (few : too_large s ≡ false) where
    pub refused : (r : ℕ) → r ≡ refusal_of_axes s.shape s.knots_u s.knots_v → (r ≡ 0 → ⊥) → Refusal r ≡ quoted s hinted
    unfolding quoted quoted_by refusal_of_quote or_else
    refused zero e h = absurd (h refl)
    refused (suc k) e h = rw (few, ← e)

    pub answered : refusal_of_axes s.shape s.knots_u s.knots_v ≡ 0 → (g m : ℕ) → g ≡ grid_size s → m ≡ margin hinted → Quoted (record { grid = g; most = g + m }) ≡ quoted s hinted
    answered ok g m e f = rw (e, f) (sym (sized-quoted s ok few hinted))
