-- The loops' steps over plain values. Assumes nothing.
use mathlib.Core.Path.{◌≡◌, refl, sym, ap, ◌∙◌}
use mathlib.Core.List.{List}
use Prim.Native.Nat.{ℕ, zero, suc, ◌+◌, ◌-◌, ◌/◌, ◌%◌, ◌^◌, ◌≤◌, ◌<◌}
use native.Mathlib.Nat.{add_assoc, add-zero, pow-suc, div-lt_iff_lt-mul}
use native.Mathlib.Numerals.{add-one}
use native.Mathlib.Omega.{arith}
use lib.ListN.{length, drop, get_or, set}
use lib.Seq.{drop-cons, drop-length}
use borrow.Author.Tests.{lt-ltb, le-ltb}
use Rattle.digits.specs.Text.{Put, digit, digits, places_in, decimal, hex16, written}
use Rattle.digits.specs.TextLaws.{written_none, written-size, written-first, written_last, digits-length}

-- ---- bytes as they are

module _ (at : ℕ) (text out₀ : List ℕ) where
  pub copy_begin : written at text out₀ ≡ written (at + 0) text out₀
  copy_begin = ap (λ (a : ℕ). written a text out₀) (sym (add-zero at))

  module _ (i : ℕ) (out : List ℕ) (e : written at text out₀ ≡ written (at + i) (drop i text) out) where
    pub copy-go : i < length text → at + i < length out → written at text out₀ ≡ written (at + (i + 1)) (drop (i + 1) text) (set out (at + i) (get_or text i 0))
    copy-go h l =
        e ∙ ap (λ (t : List ℕ). written (at + i) t out) (drop-cons text i 0 h)
        ∙ written-first (at + i) out (get_or text i 0) (drop (suc i) text) l ∙ simp (add_assoc, add-one)

    pub copy-over : i ≡ length text → out ≡ written at text out₀
    copy-over h =
        sym (e ∙ ap (λ (t : List ℕ). written (at + i) t out) (ap (λ (k : ℕ). drop k text) h ∙ drop-length text) ∙ written_none (at + i) out)

-- ---- digits

module _ (at base : ℕ) (out : List ℕ) where
  spell-more : (j rest : ℕ) → at + j < length out → written at (digits base (suc j) rest) out ≡ written at (digits base j (rest / base)) (set out (at + j) (digit (rest % base)))
  unfolding digits
  spell-more j rest l =
      let n : length (digits base j (rest / base)) ≡ j = digits-length base j (rest / base) in
      written_last at out (digits base j (rest / base)) (digit (rest % base)) (omega arith)
      ∙ ap (λ (k : ℕ). written at (digits base j (rest / base)) (set out (at + k) (digit (rest % base)))) n

  pub spell-go : (i rest : ℕ) → 0 < i → at + i ≤ length out
      → written at (digits base i rest) out ≡ written at (digits base (i - 1) (rest / base)) (set out (at + (i - 1)) (digit (rest % base)))
  spell-go i rest p l =
      let e : i ≡ suc (i - 1) = omega arith in
      ap (λ (k : ℕ). written at (digits base k rest) out) e ∙ spell-more (i - 1) rest (omega arith)

  pub spell-over : (i rest : ℕ) → i ≡ 0 → written at (digits base i rest) out ≡ out
  unfolding digits
  spell-over i rest z = ap (λ (k : ℕ). written at (digits base k rest) out) z ∙ written_none at out

-- ---- how many digits

tenth : (j rest : ℕ) → rest < 10 ^ suc j → rest / 10 < 10 ^ j
tenth j rest h = (div-lt_iff_lt-mul {k = 10} {x = rest} {y = 10 ^ j} (omega arith)).1 (rw (← pow-suc) h)

places-more : (j rest : ℕ) → 10 ≤ rest → places_in (suc j) rest ≡ suc (places_in j (rest / 10))
unfolding places_in
places-more j rest t = simp (le-ltb rest 10 t)

pub places-go : (j rest : ℕ) → 10 ≤ rest → rest < 10 ^ suc j → (0 < j) × (rest / 10 < 10 ^ suc (j - 1)) × (places_in j rest ≡ suc (places_in (j - 1) (rest / 10)))
places-go zero rest t h = absurd (omega arith)
places-go (suc j) rest t h =
    let e : suc j - 1 ≡ j = omega arith in
    (omega arith, rw e (tenth (suc j) rest h), rw e (places-more j rest t))

pub places-over : (j rest : ℕ) → rest < 10 → places_in j rest ≡ 1
unfolding places_in
places-over zero rest h = refl
places-over (suc j) rest h = simp (lt-ltb rest 10 h)

-- ---- numbers put whole

module _ (at : ℕ) (before after : List ℕ) where
  spelt : (base k n : ℕ) → after ≡ written at (digits base k n) before → at + k ≤ length before → Put at (digits base k n) before after (at + k)
  spelt base k n e h =
      let l : length (digits base k n) ≡ k = digits-length base k n in
      record {
        whole = e;
        size = ap length e ∙ written-size at before (digits base k n) (omega arith);
        next-is = omega arith;
        inside = h;
      }

  pub hex-put : (n : ℕ) → after ≡ written at (digits 16 16 n) before → at + 16 ≤ length before → Put at (hex16 n) before after (at + 16)
  unfolding hex16
  hex-put n e h = spelt 16 16 n e h

  pub decimal-put : (k n : ℕ) → k ≡ places_in 19 n → after ≡ written at (digits 10 k n) before → at + k ≤ length before → Put at (decimal n) before after (at + k)
  unfolding decimal
  decimal-put k n p e h = rw (← p) (spelt 10 k n e h)
