-- What a quote is for: terms with a hint or without, and a row's marks. Definitions only.
use Rattle.std.specs.Prelude.{ℕ, zero, suc, ◌+◌, ◌*◌, Bool, true, false, List, [], ◌∷◌}
use Rattle.inversion.specs.declared.Hint.{Hint}
use Rattle.inversion.specs.declared.Hint.TheVariants.{Nothing, At}
use Rattle.chart.specs.declared.Terms.{Terms}
use Rattle.surface.specs.Surface.{Surface}
use Rattle.surface.specs.Refusals.{Line, None, TooLarge, AxisLines}
use Rattle.quotation.specs.declared.Quotation.{Quotation}
use Rattle.quotation.specs.Quote.{quoted}

abbrev pub has_hint : Hint → Bool
has_hint Nothing = false
has_hint (At u v) = true

-- the quote of an inversion on these terms
abbrev pub quoted_for : Surface → Terms → Quotation
quoted_for s terms = quoted s (has_hint terms.hint)

-- of so many marks: the first mark's quote, and a hinted one for each later mark
unfoldable pub quotes_of : (first later marks : ℕ) → ℕ
quotes_of first later zero = 0
quotes_of first later (suc n) = first + n * later

-- the lines of 01's table and 02's that a quote answers: "1, 5 and 6 for u, for v, 24"
abbrev pub QuoteLines : Surface → ℕ → Type 0
QuoteLines s = Line (TooLarge s) 1 (AxisLines s None)

-- k numbers from n on
unfoldable pub counts : (n k : ℕ) → List ℕ
counts n zero = []
counts n (suc k) = n ∷ counts (suc n) k
