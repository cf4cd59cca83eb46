-- Laws of charged steps, whatever they answer. Assumes nothing.
use Rattle.std.proofs.Math.Path.{◌≡◌, refl, sym, ap}
use Rattle.std.specs.Prelude.{Bool, ℕ, ◌+◌, ◌≤◌, ◌<◌}
use Rattle.std.proofs.Math.Bool.{true, false, cond}
use Rattle.std.proofs.Common.{zero-add}
use native.Mathlib.Omega.{arith}
use Rattle.std.proofs.Math.Dec.{leb}
use borrow.Author.Tests.{leb-true, leb-false, le-leb, lt-leb}
use Rattle.price.specs.Price.{Priced, refused, answered, price, after, mapped, ◌then◌, spent, paid, spend}

pub record Between (low n high : ℕ) : Type 0 where
  pub above : low ≤ n
  pub under : n ≤ high

-- what holds of an answer and its price, where there is one
abbrev pub Answers : {A : Type 0} → (A → ℕ → Type 0) → Priced A → Type 0
Answers P (refused n) = Unit {0}
Answers P (answered a n) = P a n

module _ {A : Type 0} where
  pub answers-map : (P Q : A → ℕ → Type 0) → ((a : A) (n : ℕ) → P a n → Q a n) → (p : Priced A) → Answers P p → Answers Q p
  answers-map P Q f (refused n) h = tt
  answers-map P Q f (answered a n) h = f a n h

  pub after-answers : (P : A → ℕ → Type 0) (n : ℕ) (p : Priced A) → Answers (λ a k. P a (n + k)) p → Answers P (after n p)
  unfolding after
  after-answers P n (refused k) h = tt
  after-answers P n (answered a k) h = h

  pub after-price : (n : ℕ) (p : Priced A) → price (after n p) ≡ n + price p
  unfolding after
  after-price n (refused k) = refl
  after-price n (answered a k) = refl

  -- "with that much or more it gives the same result"
  pub spend-enough : (budget : ℕ) (p : Priced A) → price p ≤ budget → spend budget p ≡ paid p
  unfolding spend
  spend-enough budget p h = simp (le-leb (price p) budget h)

  -- "with less refusal 8"
  pub spend-short : (budget : ℕ) (p : Priced A) → budget < price p → spend budget p ≡ spent
  unfolding spend
  spend-short budget p h = simp (lt-leb (price p) budget h)

  -- read back: what was told came of these steps, within the budget
  pub was-paid : (budget : ℕ) (p q : Priced A) → paid q ≡ spend budget p → (p ≡ q) × (price q ≤ budget)
  unfolding spend
  was-paid budget p q e = by (leb (price p) budget) refl e
    where
      by : (t : Bool) → leb (price p) budget ≡ t → paid q ≡ cond t (paid p) spent → (p ≡ q) × (price q ≤ budget)
      by true l h = let z : p ≡ q = cc in (z, rw z at (leb-true (price p) budget l))
      by false l h = absurd (let z : ◌≡◌ {A = ℕ} 0 1 = cc in omega arith)

  pub was-spent : (budget : ℕ) (p : Priced A) → spent ≡ spend budget p → budget < price p
  unfolding spend
  was-spent budget p e = by (leb (price p) budget) refl e
    where
      by : (t : Bool) → leb (price p) budget ≡ t → spent ≡ cond t (paid p) spent → budget < price p
      by true l h = absurd (let z : ◌≡◌ {A = ℕ} 0 1 = cc in omega arith)
      by false l h = leb-false (price p) budget l

  -- nothing, and one after the other
  pub after_none : (p : Priced A) → after 0 p ≡ p
  unfolding after
  after_none (refused k) = ap refused (zero-add k)
  after_none (answered a k) = ap (answered a) (zero-add k)

  pub after-after : (m n : ℕ) (p : Priced A) → after m (after n p) ≡ after (m + n) p
  unfolding after
  after-after m n (refused k) = ap refused (omega arith)
  after-after m n (answered a k) = ap (answered a) (omega arith)

module _ {A B : Type 0} where
  pub mapped-price : (f : A → B) (p : Priced A) → price (mapped f p) ≡ price p
  unfolding mapped
  mapped-price f (refused n) = refl
  mapped-price f (answered a n) = refl

  pub mapped-answers : (P : B → ℕ → Type 0) (f : A → B) (p : Priced A) → Answers (λ a n. P (f a) n) p → Answers P (mapped f p)
  unfolding mapped
  mapped-answers P f (refused n) h = tt
  mapped-answers P f (answered a n) h = h

  pub then_same : (f g : A → Priced B) → ((a : A) → f a ≡ g a) → (p : Priced A) → (p then f) ≡ (p then g)
  unfolding ◌then◌
  then_same f g e (refused n) = refl
  then_same f g e (answered a n) = ap (after n) (e a)

  pub after_then : (n : ℕ) (p : Priced A) (f : A → Priced B) → (after n p then f) ≡ after n (p then f)
  unfolding after ◌then◌
  after_then n (refused k) f = refl
  after_then n (answered a k) f = sym (after-after n k (f a))

  -- charged before what follows
  pub then-least : (p : Priced A) (f : A → Priced B) → price p ≤ price (p then f)
  unfolding ◌then◌
  then-least (refused n) f = omega arith
  then-least (answered a n) f = omega (arith, after-price n (f a))

  pub then-most : (p : Priced A) (f : A → Priced B) (k : ℕ) → ((a : A) → price (f a) ≤ k) → price (p then f) ≤ price p + k
  unfolding ◌then◌
  then-most (refused n) f k h = omega arith
  then-most (answered a n) f k h = omega (arith, after-price n (f a), h a)

  pub then-answers : (P : A → ℕ → Type 0) (Q : B → ℕ → Type 0) (f : A → Priced B) → ((a : A) (n : ℕ) → P a n → Answers (λ b k. Q b (n + k)) (f a))
      → (p : Priced A) → Answers P p → Answers Q (p then f)
  unfolding ◌then◌
  then-answers P Q f g (refused n) h = tt
  then-answers P Q f g (answered a n) h = after-answers Q n (f a) (g a n h)

pub mapped-then : {A B C : Type 0} (f : A → B) (p : Priced A) (g : B → Priced C) → (mapped f p then g) ≡ (p then λ a. g (f a))
unfolding mapped ◌then◌
mapped-then f (refused n) g = refl
mapped-then f (answered a n) g = refl
