-- What is read from a NaN's pattern is the one NaN.
use Rattle.std.proofs.Common.{◌≡◌, true, refl, sym, ◌∙◌}
use Rattle.std.specs.Float.{Float, binary64}
use Rattle.std.specs.Float.Ieee.{nan, inf, fin, is_nan, of_bits, div}
use lib.Ieee.Bits.{nan_bits_is}
use Rattle.words.proofs.float.Goals as goal

the_nan : (x : Float) → is_nan x ≡ true → nan ≡ x
unfolding is_nan
the_nan nan e = refl
the_nan (inf s) e = cc
the_nan (fin s m k) e = cc

pub returns-then-is_nan : goal.returns-then-is_nan
unfolding div of_bits
returns-then-is_nan c = the_nan _ (sym (nan_bits_is binary64 _) ∙ sym c.is_nan.ensures ∙ c.if-is_nan.true)

pub float_from_bits-result : goal.float_from_bits-result
float_from_bits-result c = rw (← c.is_nan.ensures, c.if-is_nan.false) tt
