-- The nearest of a list: the first of those with the least distance. Assumes nothing.
use Rattle.std.specs.Prelude.{◌≡◌, refl, true, false, Float}
use Rattle.std.proofs.Common.{sym, ap, ◌∙◌, true≢false}
use mathlib.Core.List.{List, [], ◌∷◌, ◌++◌, Memᴰ}
use Rattle.std.specs.Float.Ieee.{lt, le, is_nan}
use Rattle.float64.specs.Order.{le_refl, lt→le, lt-le-trans, lt→not-le}

-- what holds of every member
abbrev pub All : {A : Type 0} → (A → Type 0) → List A → Type 0
All P [] = Unit {0}
All P (x ∷ xs) = P x × All P xs

module _ {A : Type 0} where
  pub all-at : (P : A → Type 0) {a : A} {xs : List A} → All P xs → Memᴰ a xs → P a
  all-at P h (Memᴰ.head e) = rw e h.0
  all-at P h (Memᴰ.tail m) = all-at P h.1 m

  pub all_append : (P : A → Type 0) (xs ys : List A) → All P xs → All P ys → All P (xs ++ ys)
  all_append P [] ys h k = k
  all_append P (x ∷ xs) ys h k = (h.0, all_append P xs ys h.1 k)

  pub all_map : (P Q : A → Type 0) → ((a : A) → P a → Q a) → (xs : List A) → All P xs → All Q xs
  all_map P Q f [] h = tt
  all_map P Q f (x ∷ xs) h = (f x h.0, all_map P Q f xs h.1)

  module _ (far : A → Float) where
    abbrev pub Number : A → Type 0
    Number a = is_nan (far a) ≡ false

    -- a is the nearest: those before it are further, and those after it no nearer
    pub data Nearest (a : A) : List A → Type 0 where
      here : {xs : List A} → All (λ b. le (far a) (far b) ≡ true) xs → Nearest a (a ∷ xs)
      there : {b : A} {xs : List A} → lt (far a) (far b) ≡ true → Nearest a xs → Nearest a (b ∷ xs)

    pub nearest-member : {a : A} {xs : List A} → Nearest a xs → Memᴰ a xs
    nearest-member (here h) = Memᴰ.head refl
    nearest-member (there l n) = Memᴰ.tail (nearest-member n)

    pub nearest-least : {a : A} {xs : List A} → Number a → Nearest a xs → All (λ b. le (far a) (far b) ≡ true) xs
    nearest-least {a} p (here h) = (le_refl (far a) p, h)
    nearest-least {a} p (there {b = b} l n) = (lt→le (far a) (far b) l, nearest-least p n)

    -- the same, said of the place where it stands
    pub record First (a : A) (xs : List A) : Type 0 where
      pub earlier : List A
      pub later : List A
      pub parted : xs ≡ earlier ++ (a ∷ later)
      pub further : All (λ b. lt (far a) (far b) ≡ true) earlier
      pub no_nearer : All (λ b. le (far a) (far b) ≡ true) later

    pub nearest-first : {a : A} {xs : List A} → Nearest a xs → First a xs
    nearest-first (here {xs = xs} h) = record { earlier = []; later = xs; parted = refl; further = tt; no_nearer = h }
    nearest-first (there {b = b} l n) =
        let f = nearest-first n in
        record { earlier = b ∷ f.earlier; later = f.later; parted = ap (λ xs. b ∷ xs) f.parted; further = (l, f.further); no_nearer = f.no_nearer }

    -- it is no further than the list's first
    pub nearest-front : {a b : A} {xs : List A} → Number b → Nearest a (b ∷ xs) → le (far a) (far b) ≡ true
    nearest-front {b = b} p (here h) = le_refl (far b) p
    nearest-front {a} {b} p (there l n) = lt→le (far a) (far b) l

    -- an element no nearer than the first may follow the first
    pub nearest-second : {a c : A} {xs : List A} (b : A) → le (far c) (far b) ≡ true → Nearest a (c ∷ xs) → Nearest a (c ∷ b ∷ xs)
    nearest-second {xs = xs} b h (here k) = here {xs = b ∷ xs} (h, k)
    nearest-second {a} {c} b h (there l n) = there l (there (lt-le-trans (far a) (far c) (far b) l h) n)

    -- the nearest of those after a is not nearer than a, where none of them is
    ahead : (a : A) {b : A} {xs : List A} → All (λ c. le (far a) (far c) ≡ true) xs → Nearest b xs → lt (far b) (far a) ≡ true → ⊥
    ahead a {b} h n l = true≢false (sym (all-at (λ c. le (far a) (far c) ≡ true) h (nearest-member n)) ∙ lt→not-le (far b) (far a) l)

    -- there is one nearest at most
    pub nearest-only : {a b : A} {xs : List A} → Nearest a xs → Nearest b xs → a ≡ b
    nearest-only (here h) (here k) = refl
    nearest-only {a} (here h) (there l n) = absurd (ahead a h n l)
    nearest-only {b = b} (there l n) (here h) = absurd (ahead b h n l)
    nearest-only (there l n) (there k m) = nearest-only n m
