-- How a caller's numbers are read, and whether they fit. Definitions only.
use Rattle.std.specs.Prelude.{ℕ, Bool, ◌&&◌, ◌||◌, List, [], ◌∷◌, leb, eqb, Float}
use Rattle.domain.specs.declared.Window.{Window}
use Rattle.domain.specs.declared.Window.TheVariants.{Whole, Within}
use Rattle.inversion.specs.declared.Hint.{Hint}
use Rattle.inversion.specs.declared.Hint.TheVariants.{Nothing, At}
use Rattle.chart.specs.declared.Period.{Period}
use Rattle.chart.specs.declared.Period.TheVariants.{Free, Every}
use Rattle.chart.specs.declared.Terms.{Terms}
use Rattle.job.specs.Printout.{most_printed}

-- ---- what is read

-- four numbers are a window, none are none
unfoldable pub window_from : List Float → Window
window_from [] = Whole
window_from (a ∷ []) = Whole
window_from (a ∷ (b ∷ [])) = Whole
window_from (a ∷ (b ∷ (c ∷ []))) = Whole
window_from (a ∷ (b ∷ (c ∷ (d ∷ [])))) = Within a b c d
window_from (a ∷ (b ∷ (c ∷ (d ∷ (x ∷ xs))))) = Whole

-- two numbers are a hint, none are none
unfoldable pub hint_of : List Float → Hint
hint_of [] = Nothing
hint_of (u ∷ []) = Nothing
hint_of (u ∷ (v ∷ [])) = At u v
hint_of (u ∷ (v ∷ (x ∷ xs))) = Nothing

-- one number is a period, none is none
unfoldable pub period_of : List Float → Period
period_of [] = Free
period_of (p ∷ []) = Every p
period_of (p ∷ (x ∷ xs)) = Free

unfoldable pub terms_of : List Float → Float → List Float → List Float → Terms
terms_of hint tolerance pu pv = record { hint = hint_of hint; tolerance = tolerance; u = period_of pu; v = period_of pv }

-- ---- what fits: flags, and the counts of what is lent

unfoldable pub sound_flags : ℕ → Bool
sound_flags flags = leb flags 3

-- of the count of a window
unfoldable pub sound_window : ℕ → Bool
sound_window window = eqb window 0 || eqb window 4

unfoldable pub sound_surface : (flags window : ℕ) → Bool
sound_surface flags window = sound_flags flags && sound_window window

-- of the counts of a hint and of two periods
unfoldable pub sound_options : ℕ → ℕ → ℕ → Bool
sound_options hint pu pv = (eqb hint 0 || eqb hint 2) && leb pu 1 && leb pv 1

-- a budget and a pair are written
unfoldable pub roomy : ℕ → ℕ → Bool
roomy budget pair = leb 1 budget && leb 2 pair

-- a budget and an index are written
unfoldable pub roomy_row : ℕ → ℕ → Bool
roomy_row budget index = leb 1 budget && leb 1 index

-- four flags and four times five numbers are written
unfoldable pub roomy_edges : ℕ → ℕ → Bool
roomy_edges collapsed edges = leb 4 collapsed && leb 20 edges

-- a grid's size and a quote are written; there is a hint or none
unfoldable pub fits_quote : (flags window hinted quote : ℕ) → Bool
fits_quote flags window hinted quote = sound_surface flags window && leb hinted 1 && leb 2 quote

unfoldable pub fits_jet : (flags window jet : ℕ) → Bool
fits_jet flags window jet = sound_surface flags window && leb 9 jet

-- an end and an origin are written too
unfoldable pub fits_inversion : (flags window hint pu pv budget pair ended : ℕ) → Bool
fits_inversion flags window hint pu pv budget pair ended = sound_surface flags window && sound_options hint pu pv && roomy budget pair && leb 2 ended

unfoldable pub fits_row : (flags window hint pu pv budget index : ℕ) → Bool
fits_row flags window hint pu pv budget index = sound_surface flags window && sound_options hint pu pv && roomy_row budget index

unfoldable pub fits_derivative : (flags window budget pair : ℕ) → Bool
fits_derivative flags window budget pair = sound_surface flags window && roomy budget pair

unfoldable pub fits_edges : (flags window collapsed edges : ℕ) → Bool
fits_edges flags window collapsed edges = sound_surface flags window && roomy_edges collapsed edges

-- every printout fits, and its count is written
unfoldable pub fits_job : (printout written : ℕ) → Bool
fits_job printout written = leb most_printed printout && leb 1 written
