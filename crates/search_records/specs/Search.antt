-- A search's terms, from the words of a record. Definitions only.
use Rattle.std.specs.Prelude.{List, ℕ, zero, suc, get_or, Float}
use Rattle.std.specs.Float.{binary64}
use Rattle.std.specs.Float.Ieee.{of_bits}
use Rattle.inversion.specs.declared.Hint.{Hint}
use Rattle.inversion.specs.declared.Hint.TheVariants.{Nothing, At}
use Rattle.chart.specs.declared.Period.{Period}
use Rattle.chart.specs.declared.Period.TheVariants.{Free, Every}
use Rattle.chart.specs.declared.Terms.{Terms}

-- a word says whether the numbers after it are given
unfoldable pub hint_by : ℕ → Float → Float → Hint
hint_by zero u v = Nothing
hint_by (suc k) u v = At u v

unfoldable pub period_by : ℕ → Float → Period
period_by zero p = Free
period_by (suc k) p = Every p

abbrev pub float_at : List ℕ → ℕ → Float
float_at ws k = of_bits binary64 (get_or ws k 0)

-- the hint, the tolerance, a period for u and for v
unfoldable pub terms_at : List ℕ → Terms
terms_at ws =
    record {
      hint = hint_by (get_or ws 0 0) (float_at ws 1) (float_at ws 2);
      tolerance = float_at ws 3;
      u = period_by (get_or ws 4 0) (float_at ws 5);
      v = period_by (get_or ws 6 0) (float_at ws 7);
    }
