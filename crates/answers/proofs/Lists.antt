-- Two lists are the same where they are equally long and each pair of them is.
use Rattle.std.proofs.Common.{◌≡◌, ap, refl, ℕ, Bool, true, false, ◌&&◌, List, [], ◌∷◌, length, arith}
use Rattle.std.specs.Float.{Float}
use Rattle.std.specs.List.{list_all, zip}
use Rattle.answers.specs.Stored.{same_bits, same_pair, same_list}

pub same_pairs : (xs : List Float) (ws : List ℕ) → length xs ≡ length ws → list_all same_pair (zip xs ws) ≡ same_list xs ws
unfolding same_list
same_pairs [] [] h = refl
same_pairs [] (w ∷ ws) h = absurd (omega arith)
same_pairs (x ∷ xs) [] h = absurd (omega arith)
same_pairs (x ∷ xs) (w ∷ ws) h = ap (λ (b : Bool). same_bits x w && b) (same_pairs xs ws (omega arith))

pub uneven : (xs : List Float) (ws : List ℕ) → (length xs ≡ length ws → ⊥) → false ≡ same_list xs ws
unfolding same_list
uneven [] [] h = absurd (h refl)
uneven [] (w ∷ ws) h = refl
uneven (x ∷ xs) [] h = refl
uneven (x ∷ xs) (w ∷ ws) h = let e : false ≡ same_list xs ws = uneven xs ws (λ e. h (omega arith)) in and_false (same_bits x w) e
  where
    and_false : (b : Bool) {r : Bool} → false ≡ r → false ≡ (b && r)
    and_false true e = e
    and_false false e = refl
