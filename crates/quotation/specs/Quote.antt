-- A quote before the placing, from the knots alone: the surface may be one without its controls and weights. Definitions only.
use Rattle.std.specs.Prelude.{ℕ, zero, suc, ◌+◌, ◌*◌, Bool, true, false, length}
use Rattle.surface.specs.Surface.{Surface, or_else, when, too_large, refusal_of_axes}
use Rattle.window.specs.Values.{values_u, values_v}
use Rattle.quotation.specs.declared.Quotation.{Quotation}
use Rattle.quotation.specs.declared.Quotation.TheVariants.{Quoted, Refusal}

-- 1, 5 and 6 for u, 5 and 6 for v, then 24: of 01's numbers and 02's those that need no control and no weight; 0 is no refusal
unfoldable pub refusal_of_quote : Surface → ℕ
refusal_of_quote s = or_else (when (too_large s) 1) (refusal_of_axes s.shape s.knots_u s.knots_v)

-- "the exact grid size": each of the grid's u values with each of its v values
unfoldable pub grid_size : Surface → ℕ
grid_size s = length (values_u s) * length (values_v s)

-- "it plus 198 without a hint, plus 264 with one"
unfoldable pub margin : Bool → ℕ
margin false = 198
margin true = 264

unfoldable pub quoted_by : Surface → Bool → ℕ → Quotation
quoted_by s hinted zero = Quoted (record { grid = grid_size s; most = grid_size s + margin hinted })
quoted_by s hinted (suc n) = Refusal (suc n)

-- the call's answer
unfoldable pub quoted : Surface → Bool → Quotation
quoted s hinted = quoted_by s hinted (refusal_of_quote s)

-- 01's number of an answer, 0 where there is none
unfoldable pub number_of : Quotation → ℕ
number_of (Quoted q) = 0
number_of (Refusal n) = n
