-- Bytes as a number. Definitions only.
use Rattle.std.specs.Prelude.{List, ℕ, zero, suc, ◌+◌, ◌*◌, ◌^◌, get_or}

-- the k bytes from index `at` on as digits of a number in base 256, the lowest first
unfoldable pub little_endian : ℕ → List ℕ → ℕ → ℕ
little_endian zero bytes at = 0
little_endian (suc k) bytes at = little_endian k bytes at + get_or bytes (at + k) 0 * 256 ^ k
