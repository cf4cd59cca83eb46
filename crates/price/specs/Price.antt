-- Steps that are charged by evaluations, and what a budget makes of them. Definitions only.
use Rattle.std.specs.Prelude.{ℕ, ◌+◌, cond, leb}

-- what steps come to with no word of a budget: an answer, or that an evaluation refused; and the evaluations made, the refused one included
pub data Priced (A : Type 0) : Type 0 where
  refused : ℕ → Priced A
  answered : A → ℕ → Priced A

abbrev pub price : {A : Type 0} → Priced A → ℕ
price (refused n) = n
price (answered a n) = n

-- after n evaluations
unfoldable pub after : {A : Type 0} → ℕ → Priced A → Priced A
after n (refused k) = refused (n + k)
after n (answered a k) = answered a (n + k)

-- the answer worked on, with no evaluation
unfoldable pub mapped : {A B : Type 0} → (A → B) → Priced A → Priced B
mapped f (refused n) = refused n
mapped f (answered a n) = answered (f a) n

infixr 10 ◌then◌
-- steps and what follows their answer
unfoldable pub ◌then◌ : {A B : Type 0} → Priced A → (A → Priced B) → Priced B
(refused n) then f = refused n
(answered a n) then f = after n (f a)

-- what a budget makes of them: with the price or more all of it, with less nothing
pub data Paid (A : Type 0) : Type 0 where
  spent : Paid A
  paid : Priced A → Paid A

unfoldable pub spend : {A : Type 0} → ℕ → Priced A → Paid A
spend budget p = cond (leb (price p) budget) (paid p) spent
