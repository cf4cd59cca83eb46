-- Numbers that doubles hold, as those of every f64 are: the logic's floats are wider. Definitions only.
use Rattle.std.specs.Prelude.{List, ℕ, ◌<◌, T, length, get_or, Float}
use Rattle.std.specs.Float.{nan, binary64}
use Rattle.std.specs.Float.Ieee.{fits}
use Rattle.domain.specs.declared.Window.{Window}
use Rattle.domain.specs.declared.Window.TheVariants.{Whole, Within}

abbrev pub Double : Float → Type 0
Double x = T (fits binary64 x)

abbrev pub Doubles : List Float → Type 0
Doubles xs = (i : ℕ) → i < length xs → Double (get_or xs i nan)

abbrev pub DoubleWindow : Window → Type 0
DoubleWindow Whole = Unit
DoubleWindow (Within a b c e) = Double a × Double b × Double c × Double e
