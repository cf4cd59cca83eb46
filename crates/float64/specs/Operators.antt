-- Short names of binary64's operators, and the float constants that definitions name, but for those of a bound, which stand beside it. Definitions only.
use Rattle.std.specs.Prelude.{ℕ, false, Float}
use Rattle.std.specs.Float.{binary64}
use Rattle.std.specs.Float.Ieee.{add, sub, mul, div, round, of_bits}

infixl 60 ◌⊕◌
infixl 60 ◌⊖◌
infixl 70 ◌⊗◌
infixl 70 ◌⊘◌
abbrev pub ◌⊕◌ : Float → Float → Float
x ⊕ y = add binary64 x y

abbrev pub ◌⊖◌ : Float → Float → Float
x ⊖ y = sub binary64 x y

abbrev pub ◌⊗◌ : Float → Float → Float
x ⊗ y = mul binary64 x y

abbrev pub ◌⊘◌ : Float → Float → Float
x ⊘ y = div binary64 x y

-- a count as a float
unfoldable pub of_nat : ℕ → Float
of_nat n = round binary64 false n 1

abbrev pub 0· : Float
0· = of_bits binary64 0x0000_0000_0000_0000

abbrev pub ½· : Float
½· = of_bits binary64 0x3fe0_0000_0000_0000

abbrev pub 1· : Float
1· = of_bits binary64 0x3ff0_0000_0000_0000

abbrev pub 2· : Float
2· = of_bits binary64 0x4000_0000_0000_0000

abbrev pub 8· : Float
8· = of_bits binary64 0x4020_0000_0000_0000

-- four times the machine epsilon, 2 ^ -50
abbrev pub 4ε : Float
4ε = of_bits binary64 0x3cd0_0000_0000_0000

abbrev pub 1e-6 : Float
1e-6 = of_bits binary64 0x3eb0_c6f7_a0b5_ed8d

abbrev pub 1e-15 : Float
1e-15 = of_bits binary64 0x3cd2_03af_9ee7_5616

abbrev pub 1e-24 : Float
1e-24 = of_bits binary64 0x3af3_57c2_99a8_8ea7
