-- The lines of a printout. Definitions only.
use Rattle.std.specs.Prelude.{List, [], ◌∷◌, ◌++◌, ℕ, Float}
use Rattle.std.specs.Float.{binary64}
use Rattle.std.specs.Float.Ieee.{to_bits}
use Rattle.digits.specs.Text.{ascii, digit, decimal, hex16}

-- how long a line may be, the first line and any other
abbrev pub longest_first : ℕ
longest_first = 27

abbrev pub longest_line : ℕ
longest_line = 57

-- marks in the file
unfoldable pub marks_line : ℕ → List ℕ
marks_line n = ascii "marks " ++ (decimal n ++ ascii "\n")

-- a digit, the last of its line
unfoldable pub end_text : ℕ → List ℕ
end_text end = ascii " " ++ ((digit end ∷ []) ++ ascii "\n")

-- bits of u, bits of v, budget left, how the run ended
unfoldable pub pair_line : Float → Float → ℕ → ℕ → List ℕ
pair_line u v left end = hex16 (to_bits binary64 u) ++ (ascii " " ++ (hex16 (to_bits binary64 v) ++ (ascii " " ++ (decimal left ++ end_text end))))

-- number, mark index
unfoldable pub refused_line : ℕ → ℕ → List ℕ
refused_line number index = ascii "refused " ++ (decimal number ++ (ascii " at " ++ (decimal index ++ ascii "\n")))
