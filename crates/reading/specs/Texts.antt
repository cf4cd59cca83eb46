-- What a program leaves in the buffer that it is lent. Definitions only.
use Rattle.std.specs.Prelude.{ℕ, ◌≤◌, List, length, take}
use Rattle.std.specs.Io.{StartsWith}

-- the buffer begins with what the program prints of a front of the bytes, be it what was read or another
abbrev pub TextOfFront : (printed : List ℕ → List ℕ) (bytes out : List ℕ) → Type 0
TextOfFront printed bytes out = (got : ℕ) × (got ≤ length bytes) × StartsWith out (printed (take got bytes))
