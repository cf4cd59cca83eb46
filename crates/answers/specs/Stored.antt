-- When a float is a stored answer. Definitions only.
use Rattle.std.specs.Prelude.{Bool, true, false, cond, ◌&&◌, List, [], ◌∷◌, ℕ, eqb, Float}
use Rattle.std.specs.Float.{binary64}
use Rattle.std.specs.Float.Ieee.{is_nan, nan_bits, to_bits}

-- a NaN's bits are open, so a NaN is the same as any
unfoldable pub same_bits : Float → ℕ → Bool
same_bits x bits = cond (is_nan x) (nan_bits binary64 bits) (eqb (to_bits binary64 x) bits)

abbrev pub same_pair : Float × ℕ → Bool
same_pair p = same_bits p.0 p.1

-- one by one, and as many of the one as of the other
unfoldable pub same_list : List Float → List ℕ → Bool
same_list [] [] = true
same_list [] (w ∷ ws) = false
same_list (x ∷ xs) [] = false
same_list (x ∷ xs) (w ∷ ws) = same_bits x w && same_list xs ws

-- a refusal's number alone
unfoldable pub is_refusal : ℕ → List ℕ → Bool
is_refusal n [] = false
is_refusal n (w ∷ []) = eqb w n
is_refusal n (w ∷ v ∷ ws) = false

-- 0 for no refusal, then the numbers
unfoldable pub is_answer : List Float → List ℕ → Bool
is_answer xs [] = false
is_answer xs (w ∷ ws) = eqb w 0 && same_list xs ws
