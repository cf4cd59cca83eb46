-- Digits read as a number by the plain rule, and what is printed for a number below 2^64 reads back to it. Assumes nothing.
use Rattle.std.proofs.Math.Path.{◌≡◌, refl, ap}
use Rattle.std.proofs.Common.{sym, ◌∙◌, pow-suc, mod-lt, div-add-mod', div-lt_iff_lt-mul, arith}
use Rattle.std.specs.Prelude.{Bool, ◌&&◌, leb, ltb, length, get_or}
use Rattle.std.proofs.Math.Bool.{true, false, cond}
use mathlib.Core.List.{List, [], ◌∷◌, ◌++◌}
use Rattle.std.proofs.Math.Option.{Option, none, some}
use Prim.Native.Nat.{ℕ, zero, suc, ◌+◌, ◌-◌, ◌*◌, ◌/◌, ◌%◌, ◌^◌, ◌≤◌, ◌<◌}
use Rattle.std.proofs.Math.Nat.{pow-zero}
use Rattle.std.proofs.Math.ListN.{get_or-append}
use borrow.Author.Tests.{ltb-true, ltb-false, lt-ltb, le-leb, lt-leb}
use Rattle.digits.specs.Text.{ascii, digit, digits, places_in, decimal, hex16}
use Rattle.digits.specs.TextLaws.{digits-length}

-- what a byte stands for: 0 to 9, then a to f. Any other stands for 16, which is a digit of neither base
unfoldable pub value_of : ℕ → ℕ
value_of c = cond (leb 48 c && leb c 57) (c - 48) (cond (leb 97 c && leb c 102) (c - 87) 16)

-- the number n with the digits after it, from left to right; none where a byte is no digit of the base
unfoldable pub read_on : ℕ → ℕ → List ℕ → Option ℕ
read_on base n [] = some n
read_on base n (c ∷ cs) = cond (ltb (value_of c) base) (read_on base (n * base + value_of c) cs) none

-- one digit or more
unfoldable pub read_in : ℕ → List ℕ → Option ℕ
read_in base [] = none
read_in base (c ∷ cs) = read_on base 0 (c ∷ cs)

-- ---- digits after digits

module _ (base : ℕ) where
  read-append : (n v : ℕ) (xs ys : List ℕ) → read_on base n xs ≡ some v → read_on base n (xs ++ ys) ≡ read_on base v ys
  unfolding read_on
  read-append n v [] ys e = cc
  read-append n v (c ∷ cs) ys e = by (ltb (value_of c) base) e (read-append (n * base + value_of c) v cs ys)
    where
      by : (t : Bool) → cond t (read_on base (n * base + value_of c) cs) none ≡ some v
          → (read_on base (n * base + value_of c) cs ≡ some v → read_on base (n * base + value_of c) (cs ++ ys) ≡ read_on base v ys)
          → cond t (read_on base (n * base + value_of c) (cs ++ ys)) none ≡ read_on base v ys
      by true e more = more e
      by false e more = let z : ◌≡◌ {A = ℕ} 0 1 = cc in absurd (omega arith)

  read_whole : (t : List ℕ) → 0 < length t → read_in base t ≡ read_on base 0 t
  unfolding read_in
  read_whole [] h = absurd (omega arith)
  read_whole (c ∷ cs) h = refl

digit_value : (d : ℕ) → d < 16 → value_of (digit d) ≡ d
unfolding value_of digit
digit_value d h = by (ltb d 10) refl
  where
    by : (t : Bool) → ltb d 10 ≡ t → value_of (cond t (48 + d) (87 + d)) ≡ d
    by true e = let l = ltb-true d 10 e in simp (le-leb 48 (48 + d) (omega arith), le-leb (48 + d) 57 (omega arith)) (omega arith)
    by false e =
        let l = ltb-false d 10 e in
        simp (le-leb 48 (87 + d) (omega arith), lt-leb (87 + d) 57 (omega arith), le-leb 97 (87 + d) (omega arith), le-leb (87 + d) 102 (omega arith)) (omega arith)

-- ---- how many digits: enough, and the first of them not 0

places-some : (k n : ℕ) → 1 ≤ places_in k n
unfolding places_in
places-some zero n = omega arith
places-some (suc k) n = by (ltb n 10)
  where
    by : (t : Bool) → 1 ≤ cond t 1 (suc (places_in k (n / 10)))
    by true = omega arith
    by false = omega arith

places-enough : (k n : ℕ) → n < 10 ^ suc k → n < 10 ^ places_in k n
unfolding places_in
places-enough zero n h = h
places-enough (suc k) n h = by (ltb n 10) refl (places-enough k (n / 10) (omega (arith, pow-suc 10 (suc k))))
  where
    by : (t : Bool) → ltb n 10 ≡ t → n / 10 < 10 ^ places_in k (n / 10) → n < 10 ^ cond t 1 (suc (places_in k (n / 10)))
    by true e more = ltb-true n 10 e
    by false e more = omega (arith, pow-suc 10 (places_in k (n / 10)))

places-fewest : (k n j : ℕ) → 0 < n → places_in k n ≡ suc j → 10 ^ j ≤ n
unfolding places_in
places-fewest k n zero p e = p
places-fewest zero n (suc j) p e = absurd (omega arith)
places-fewest (suc k) n (suc j) p e = by (ltb n 10) refl e (places-fewest k (n / 10) j)
  where
    by : (t : Bool) → ltb n 10 ≡ t → cond t 1 (suc (places_in k (n / 10))) ≡ suc (suc j) → (0 < n / 10 → places_in k (n / 10) ≡ suc j → 10 ^ j ≤ n / 10) → 10 ^ suc j ≤ n
    by true e f more = absurd (omega arith)
    by false e f more = let l = ltb-false n 10 e in omega (arith, pow-suc 10 j, more (omega arith) (omega arith))

first-digit : (k n : ℕ) → 10 ^ k ≤ n → n < 10 ^ suc k → get_or (digits 10 (suc k) n) 0 48 ≡ 48 → ⊥
unfolding digits value_of
first-digit zero n l h z = let d : 0 ≡ n % 10 = ap value_of (sym z) ∙ digit_value (n % 10) (omega arith) in omega arith
first-digit (suc k) n l h z =
    first-digit k (n / 10) (omega (arith, pow-suc 10 k)) (omega (arith, pow-suc 10 (suc k)))
    (sym (get_or-append (digits 10 (suc k) (n / 10)) (digit (n % 10) ∷ []) 48 0 (omega (arith, digits-length 10 (suc k) (n / 10)))) ∙ z)

-- the last k digits of a number that has no more
module _ (base : ℕ) (two : 1 < base) (most : base ≤ 16) where
  read-last : (n d : ℕ) → d < base → read_on base n (digit d ∷ []) ≡ some (n * base + d)
  unfolding read_on
  read-last n d h = simp (digit_value d (omega arith), lt-ltb d base h)

  read-digits : (k n : ℕ) → n < base ^ k → read_on base 0 (digits base k n) ≡ some n
  unfolding digits read_on
  read-digits zero n h = ap some (omega (arith, pow-zero base))
  read-digits (suc k) n h =
      let less : n / base < base ^ k = (div-lt_iff_lt-mul {k = base} {x = n} {y = base ^ k} (omega arith)).1 (rw (← pow-suc) h) in
      read-append base 0 (n / base) (digits base k (n / base)) (digit (n % base) ∷ []) (read-digits k (n / base) less)
      ∙ read-last (n / base) (n % base) (mod-lt n (omega arith))
      ∙ ap some (div-add-mod' n base)

-- ---- numbers below 2^64

-- a decimal reads back to the number that it was printed for
pub decimal-value : (n : ℕ) → n < 2 ^ 64 → read_in 10 (decimal n) ≡ some n
unfolding decimal
decimal-value n h =
    let enough = places-enough 19 n (omega arith) in
    read_whole 10 (digits 10 (places_in 19 n) n) (omega (arith, digits-length 10 (places_in 19 n) n, places-some 19 n))
    ∙ read-digits 10 (omega arith) (omega arith) (places_in 19 n) n enough

-- and so do hexadecimal digits
pub hex-value : (n : ℕ) → n < 2 ^ 64 → read_in 16 (hex16 n) ≡ some n
unfolding hex16
hex-value n h = read_whole 16 (digits 16 16 n) (omega (arith, digits-length 16 16 n)) ∙ read-digits 16 (omega arith) (omega arith) 16 n (omega arith)

-- of which there are 16, zeros in front included
pub hex-length : (n : ℕ) → length (hex16 n) ≡ 16
unfolding hex16
hex-length n = digits-length 16 16 n

-- the first digit of a decimal is not 0, unless the number is 0
pub no-zero-in-front : (n : ℕ) → 0 < n → n < 2 ^ 64 → get_or (decimal n) 0 48 ≡ 48 → ⊥
unfolding decimal
no-zero-in-front n p h = by (places_in 19 n) refl
  where
    by : (k : ℕ) → places_in 19 n ≡ k → get_or (digits 10 k n) 0 48 ≡ 48 → ⊥
    by zero e = absurd (omega (arith, places-some 19 n))
    by (suc k) e = first-digit k n (places-fewest 19 n k p e) (rw e at (places-enough 19 n (omega arith)))

-- which is that one digit
pub zero-alone : decimal 0 ≡ ascii "0"
unfolding decimal digits digit places_in ascii
zero-alone = refl
