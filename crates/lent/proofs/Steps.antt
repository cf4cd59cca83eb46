-- What is read of a caller's numbers, and what fits. Assumes nothing.
use mathlib.Core.Path.{◌≡◌, refl, ap, ◌∙◌}
use mathlib.Core.Bool.{Bool, ◌&&◌}
use mathlib.Core.List.{List, [], ◌∷◌}
use native.Mathlib.Omega.{arith}
use lib.ListN.{length, get_or}
use lib.Ieee.{Float, nan}
use Rattle.domain.specs.declared.Window.TheVariants.{Whole, Within}
use Rattle.inversion.specs.declared.Hint.TheVariants.{Nothing, At}
use Rattle.chart.specs.declared.Period.TheVariants.{Free, Every}
use Rattle.lent.specs.Lent.{window_from, hint_of, period_of}

-- ---- what is read

pub no-window : (xs : List Float) → (length xs ≡ 4 → ⊥) → Whole ≡ window_from xs
unfolding window_from
no-window [] h = refl
no-window (a ∷ []) h = refl
no-window (a ∷ (b ∷ [])) h = refl
no-window (a ∷ (b ∷ (c ∷ []))) h = refl
no-window (a ∷ (b ∷ (c ∷ (d ∷ [])))) h = absurd (h refl)
no-window (a ∷ (b ∷ (c ∷ (d ∷ (x ∷ xs))))) h = refl

pub a-window : (xs : List Float) → length xs ≡ 4 → Within (get_or xs 0 nan) (get_or xs 1 nan) (get_or xs 2 nan) (get_or xs 3 nan) ≡ window_from xs
unfolding window_from
a-window [] h = absurd (omega arith)
a-window (a ∷ []) h = absurd (omega arith)
a-window (a ∷ (b ∷ [])) h = absurd (omega arith)
a-window (a ∷ (b ∷ (c ∷ []))) h = absurd (omega arith)
a-window (a ∷ (b ∷ (c ∷ (d ∷ [])))) h = refl
a-window (a ∷ (b ∷ (c ∷ (d ∷ (x ∷ xs))))) h = absurd (omega arith)

pub no-hint : (xs : List Float) → (length xs ≡ 2 → ⊥) → Nothing ≡ hint_of xs
unfolding hint_of
no-hint [] h = refl
no-hint (u ∷ []) h = refl
no-hint (u ∷ (v ∷ [])) h = absurd (h refl)
no-hint (u ∷ (v ∷ (x ∷ xs))) h = refl

pub a-hint : (xs : List Float) → length xs ≡ 2 → At (get_or xs 0 nan) (get_or xs 1 nan) ≡ hint_of xs
unfolding hint_of
a-hint [] h = absurd (omega arith)
a-hint (u ∷ []) h = absurd (omega arith)
a-hint (u ∷ (v ∷ [])) h = refl
a-hint (u ∷ (v ∷ (x ∷ xs))) h = absurd (omega arith)

pub no-period : (xs : List Float) → (length xs ≡ 1 → ⊥) → Free ≡ period_of xs
unfolding period_of
no-period [] h = refl
no-period (p ∷ []) h = absurd (h refl)
no-period (p ∷ (x ∷ xs)) h = refl

pub a-period : (xs : List Float) → length xs ≡ 1 → Every (get_or xs 0 nan) ≡ period_of xs
unfolding period_of
a-period [] h = absurd (omega arith)
a-period (p ∷ []) h = refl
a-period (p ∷ (x ∷ xs)) h = absurd (omega arith)

-- ---- what fits

pub both : {a b x y : Bool} → a ≡ x → b ≡ y → (a && b) ≡ (x && y)
both {b} {x} h k = ap (λ t. t && b) h ∙ ap (λ t. x && t) k
