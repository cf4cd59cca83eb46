-- What a bit pattern without its sign stands for, in units of the smallest double. Definitions only.
use Rattle.std.specs.Prelude.{ℕ, ◌+◌, ◌-◌, ◌*◌, ◌/◌, ◌%◌, ◌^◌, cond, ltb}

-- a field of 0 has no leading digit, and counts as a field of 1
unfoldable pub units_of_bits : ℕ → ℕ
units_of_bits b = cond (ltb b (2 ^ 52)) b ((2 ^ 52 + b % 2 ^ 52) * 2 ^ (b / 2 ^ 52 - 1))
