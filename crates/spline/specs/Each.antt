-- A test of a list that is a test of each element, with what comes after it. Assumes nothing.
use Rattle.std.specs.Prelude.{◌≡◌, Bool, true, false, ◌&&◌, List, [], ◌∷◌, ℕ, zero, suc, ◌+◌, ◌≤◌, ◌<◌, length, drop, get_or, Float}
use Rattle.std.proofs.Common.{sym, ap, ◌∙◌, add-one, arith, drop_of_length-le, drop-cons}
use Rattle.std.proofs.Math.Bool.{and-eq-true_iff, and_assoc, and-true}
use Rattle.std.specs.Float.{nan}

pub both : (p q : Bool) → (p && q) ≡ true → (p ≡ true) × (q ≡ true)
both p q = (and-eq-true_iff p q).0

-- `all` passes where `one` passes of each element and the rest after it
pub record Each (one : Float → List Float → Bool) (all : List Float → Bool) : Type 0 where
  pub none : all [] ≡ true
  pub more : (x : Float) (xs : List Float) → all (x ∷ xs) ≡ (one x xs && all xs)

module _ {one : Float → List Float → Bool} {all : List Float → Bool} (each : Each one all) where
  pub first-and-rest : (x : Float) (xs : List Float) → all (x ∷ xs) ≡ true → (one x xs ≡ true) × (all xs ≡ true)
  first-and-rest x xs h = both (one x xs) (all xs) (sym (each.more x xs) ∙ h)

  pub each_at : (xs : List Float) (i : ℕ) → all xs ≡ true → i < length xs → one (get_or xs i nan) (drop (suc i) xs) ≡ true
  each_at [] i h l = absurd (omega arith)
  each_at (x ∷ xs) zero h l = (first-and-rest x xs h).0
  each_at (x ∷ xs) (suc i) h l = each_at xs i (first-and-rest x xs h).1 (omega arith)

  pub all_of_each : (xs : List Float) → ((i : ℕ) → i < length xs → one (get_or xs i nan) (drop (suc i) xs) ≡ true) → all xs ≡ true
  all_of_each [] h = each.none
  all_of_each (x ∷ xs) h = each.more x xs ∙ (and-eq-true_iff _ _).1 (h 0 (omega arith), all_of_each xs (λ i l. h (suc i) (omega arith)))

  -- A walk from the first to the last: at i, the whole passes where what is left does.
  pub walked : (xs : List Float) (i : ℕ) → all xs ≡ all (drop i xs) → length xs ≤ i → all xs ≡ true
  walked xs i e h = e ∙ ap all (drop_of_length-le xs h) ∙ each.none

  module _ (xs : List Float) (i : ℕ) (e : all xs ≡ all (drop i xs)) (h : i < length xs) where
    step : all xs ≡ (one (get_or xs i nan) (drop (i + 1) xs) && all (drop (i + 1) xs))
    step = e ∙ ap all (drop-cons xs i nan h) ∙ rw add-one (each.more _ _)

    pub stops : one (get_or xs i nan) (drop (i + 1) xs) ≡ false → all xs ≡ false
    stops t = step ∙ simp t

    pub goes : one (get_or xs i nan) (drop (i + 1) xs) ≡ true → all xs ≡ all (drop (i + 1) xs)
    goes t = step ∙ simp t

  -- A walk that does not stop: b tells whether all before i pass.
  module _ (xs : List Float) (i : ℕ) (b : Bool) (e : all xs ≡ (b && all (drop i xs))) where
    pub tells_more : i < length xs → all xs ≡ ((b && one (get_or xs i nan) (drop (i + 1) xs)) && all (drop (i + 1) xs))
    tells_more h = e ∙ ap (λ (t : Bool). b && t) (ap all (drop-cons xs i nan h) ∙ rw add-one (each.more _ _)) ∙ sym (and_assoc b _ _)

    pub tells_all : length xs ≤ i → b ≡ all xs
    tells_all h = sym (e ∙ ap (λ (t : Bool). b && t) (ap all (drop_of_length-le xs h) ∙ each.none) ∙ and-true b)
