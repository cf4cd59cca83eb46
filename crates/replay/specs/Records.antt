-- The words of a record, from its bytes. Definitions only.
use Rattle.std.specs.Prelude.{◌≡◌, List, ℕ, ◌*◌, ◌≤◌, ◌<◌, length, take, get_or, Float}
use Rattle.std.specs.Float.{nan, binary64}
use Rattle.std.specs.Float.Ieee.{of_bits}
use Rattle.words.specs.Words.{little_endian}

-- the first `count` words, as they are and as floats
pub record Decoded (bytes : List ℕ) (count : ℕ) (words : List ℕ) (numbers : List Float) : Type 0 where
  pub words_are : (k : ℕ) → k < count → get_or words k 0 ≡ little_endian 8 bytes (8 * k)
  pub numbers-are : (k : ℕ) → k < count → get_or numbers k nan ≡ of_bits binary64 (little_endian 8 bytes (8 * k))

-- A record in its three forms. The facts on lengths are stated so that the proof that Rattle makes of `&words[..count]` finds them.
pub record Held (bytes : List ℕ) (count : ℕ) (words : List ℕ) (numbers : List Float) : Type 0 where
  pub few : count ≤ 4094
  pub bytes_count : 8 * count ≡ length (take (8 * count) bytes)
  pub words_count : count ≡ length (take count words)
  pub numbers-count : count ≡ length (take count numbers)
  pub decoded : Decoded bytes count words numbers
