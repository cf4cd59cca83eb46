-- Text as bytes: ASCII, numbers by their digits, and text put into a buffer. Definitions only.
use Rattle.std.specs.Prelude.{◌≡◌, cond, List, [] as []ᴸ, ◌∷◌ as ◌∷ᴸ◌, ◌++◌, ℕ, zero, suc, ◌+◌, ◌/◌, ◌%◌, ◌≤◌, ltb, length, take, drop}
use Prim.Native.Char.{code}
use Prim.Native.String.{String, [], ◌∷◌}

unfoldable pub ascii : String → List ℕ
ascii [] = []ᴸ
ascii (c ∷ s) = code c ∷ᴸ ascii s

-- 0 to 9, then a to f
unfoldable pub digit : ℕ → ℕ
digit d = cond (ltb d 10) (48 + d) (87 + d)

-- the last k digits of n, the most significant first
unfoldable pub digits : ℕ → ℕ → ℕ → List ℕ
digits base zero n = []ᴸ
digits base (suc k) n = digits base k (n / base) ++ (digit (n % base) ∷ᴸ []ᴸ)

-- how many digits n has in base ten, k + 1 at most: one below ten, else one more than its tenth part
unfoldable pub places_in : ℕ → ℕ → ℕ
places_in zero n = 1
places_in (suc k) n = cond (ltb n 10) 1 (suc (places_in k (n / 10)))

-- of a number below 2^64, which has 20 digits at most
unfoldable pub decimal : ℕ → List ℕ
decimal n = digits 10 (places_in 19 n) n

unfoldable pub hex16 : ℕ → List ℕ
hex16 n = digits 16 16 n

-- a buffer with text from index `at` on
unfoldable pub written : ℕ → List ℕ → List ℕ → List ℕ
written at text out = take at out ++ (text ++ drop (at + length text) out)

-- a call put text into a buffer, and answers where the next goes
pub record Put (at : ℕ) (text before after : List ℕ) (next : ℕ) : Type 0 where
  pub whole : after ≡ written at text before
  pub size : length after ≡ length before
  pub next-is : next ≡ at + length text
  pub inside : next ≤ length before
