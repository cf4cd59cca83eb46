-- What the pass over the weights and the branches of their check show, over plain values. Assumes nothing.
use mathlib.Core.Path.{◌≡◌, refl, sym, ap, ◌∙◌}
use mathlib.Core.Bool.{Bool, true, false, not, cond, ◌&&◌, and-true, and_self, and_assoc, and-eq-true_iff, or-true}
use mathlib.Core.List.{List, [], ◌∷◌}
use Prim.Native.Nat.{ℕ, suc, ◌+◌, ◌*◌, ◌≤◌, ◌<◌}
use native.Mathlib.Numerals.{add-one}
use native.Mathlib.Omega.{arith}
use lib.ListN.{length, drop, get_or, drop_of_length-le}
use lib.Seq.{drop-cons}
use lib.Ieee.{Float, nan, inf, lt, eq, is_nan}
use Rattle.float64.specs.Operators.{◌⊘◌, 0·}
use Rattle.float64.specs.Functions.{is_finite, larger, lesser, max}
use Rattle.float64.specs.Order.{max-larger, lt_trans, lt_irrefl, lt_not_le, le_not_lt, le_trans}
use Rattle.float64.specs.Nonneg.{Nonneg, infinite, zero-nonneg, nonneg→number}
use Rattle.spline.specs.declared.weights.Weighed.TheVariants.{Scale, Refused}
use Rattle.spline.specs.Weights.{sound, largest, vanishing, is_empty, weighed}
use Rattle.spline.specs.WeightLaws.{not-empty}
use Rattle.spline.specs.ExtremeLaws.{all_above, smallest, Told, above-nonneg, sound-by-most, vanishing-by-least}

-- ---- one of two numbers, by a strict order of them, the first of equals: which pair is compared first makes no difference

module _ (R : Float → Float → Bool) (a b c : Float) (forth : R a b ≡ true → R b c ≡ true → R a c ≡ true) (back : R a b ≡ false → R b c ≡ false → R a c ≡ false) where
  chosen-assoc : cond (R (cond (R a b) b a) c) c (cond (R a b) b a) ≡ cond (R a (cond (R b c) c b)) (cond (R b c) c b) a
  chosen-assoc = by (R a b) refl (R b c) refl
    where
      by : (s : Bool) → R a b ≡ s → (t : Bool) → R b c ≡ t → cond (R (cond s b a) c) c (cond s b a) ≡ cond (R a (cond t c b)) (cond t c b) a
      by true p true q = simp (q, forth p q)
      by true p false q = simp (q, p)
      by false p true q = refl
      by false p false q = simp (p, back p q)

not-lt-trans : (a b c : Float) → is_nan a ≡ false → is_nan b ≡ false → is_nan c ≡ false → lt a b ≡ false → lt b c ≡ false → lt a c ≡ false
not-lt-trans a b c A B C p q =
    rw (lt_not_le a c A C, le_trans c b a (le_not_lt c b C B ∙ ap not q) (le_not_lt b a B A ∙ ap not p))

module _ {m x y : Float} (M : Nonneg m) (X : Nonneg x) (Y : Nonneg y) where
  larger-assoc : larger (larger m x) y ≡ larger m (larger x y)
  larger-assoc = chosen-assoc lt m x y (lt_trans m x y) (not-lt-trans m x y (nonneg→number M) (nonneg→number X) (nonneg→number Y))

  lesser-assoc : lesser (lesser m x) y ≡ lesser m (lesser x y)
  lesser-assoc = chosen-assoc (λ p q. lt q p) m x y (λ p q. lt_trans y x m q p) (λ p q. not-lt-trans y x m (nonneg→number Y) (nonneg→number X) (nonneg→number M) q p)

either : (t : Bool) {x y : Float} → Nonneg x → Nonneg y → Nonneg (cond t x y)
either true p q = p
either false p q = q

larger-nonneg : {m w : Float} → Nonneg m → Nonneg w → Nonneg (larger m w)
larger-nonneg {m} {w} p q = either (lt m w) q p

lesser-nonneg : {m w : Float} → Nonneg m → Nonneg w → Nonneg (lesser m w)
lesser-nonneg {m} {w} p q = either (lt w m) q p

-- ---- what was found of the weights before the rest

pub record Passed (ws rest : List Float) (above : Bool) (least most : Float) : Type 0 where
  pub is-above : all_above ws ≡ (above && all_above rest)
  pub is-least : above ≡ true → smallest (inf false) ws ≡ smallest least rest
  pub is-most : above ≡ true → largest 0· ws ≡ largest most rest
  pub least-number : above ≡ true → Nonneg least
  pub most-number : above ≡ true → Nonneg most

pub begin : (ws : List Float) → Passed ws ws true (inf false) 0·
begin ws = record { is-above = refl; is-least = λ h. refl; is-most = λ h. refl; least-number = λ h. infinite; most-number = λ h. zero-nonneg }

-- where all that was found is above 0, and so are the next two
module _ (above : Bool) (x y : Float) (h : (above && (lt 0· x && lt 0· y)) ≡ true) where
  before : above ≡ true
  before = ((and-eq-true_iff above _).0 h).0

  first : Nonneg x
  first = above-nonneg x ((and-eq-true_iff (lt 0· x) (lt 0· y)).0 ((and-eq-true_iff above _).0 h).1).0

  second : Nonneg y
  second = above-nonneg y ((and-eq-true_iff (lt 0· x) (lt 0· y)).0 ((and-eq-true_iff above _).0 h).1).1

pub go : {ws rest : List Float} {x y : Float} {above : Bool} {least most : Float} → Passed ws (x ∷ y ∷ rest) above least most
    → Passed ws rest (above && (lt 0· x && lt 0· y)) (lesser least (lesser x y)) (larger most (larger x y))
unfolding all_above smallest largest
go {ws} {rest} {x} {y} {above} {least} {most} p = record {
  is-above = p.is-above ∙ simp and_assoc;
  is-least = λ h. p.is-least (before above x y h) ∙ ap (λ (z : Float). smallest z rest) (lesser-assoc (p.least-number (before above x y h)) (first above x y h) (second above x y h));
  is-most = λ h.
      let M = p.most-number (before above x y h) in
      let X = first above x y h in
      p.is-most (before above x y h) ∙ ap (λ (z : Float). largest (max z y) rest) (max-larger _ x (nonneg→number M)) ∙ ap (λ (z : Float). largest z rest) (max-larger _ y (nonneg→number (larger-nonneg M X)) ∙ larger-assoc M X (second above x y h));
  least-number = λ h. lesser-nonneg (p.least-number (before above x y h)) (lesser-nonneg (first above x y h) (second above x y h));
  most-number = λ h. larger-nonneg (p.most-number (before above x y h)) (larger-nonneg (first above x y h) (second above x y h));
}

pub over : {ws : List Float} {above : Bool} {least most : Float} → Passed ws [] above least most → Told ws above least most
unfolding all_above smallest largest
over {ws} {above} p = record { is-above = sym (p.is-above ∙ and-true above); is-least = λ h. sym (p.is-least h); is-most = λ h. sym (p.is-most h) }

-- the last of an odd number, as a pair with itself
pub over-odd : {ws : List Float} {x : Float} {above : Bool} {least most : Float} → Passed ws (x ∷ []) above least most
    → Told ws (above && (lt 0· x && lt 0· x)) (lesser least (lesser x x)) (larger most (larger x x))
unfolding all_above smallest largest
over-odd {ws} {x} {above} {least} {most} p = record {
  is-above = sym (p.is-above ∙ simp (and-true, and_self));
  is-least = λ h. simp (lt_irrefl x) (sym (p.is-least (before above x x h)));
  is-most = λ h. simp (lt_irrefl x) (sym (p.is-most (before above x x h) ∙ max-larger _ x (nonneg→number (p.most-number (before above x x h)))));
}

drop-two : (ws : List Float) (j k : ℕ) → j + 1 < length ws → k ≡ suc (suc j) → drop j ws ≡ get_or ws j nan ∷ get_or ws (j + 1) nan ∷ drop k ws
drop-two ws j k h e = rw (e, add-one j) (drop-cons ws j nan (omega arith) ∙ ap (λ (l : List Float). get_or ws j nan ∷ l) (drop-cons ws (suc j) nan (omega arith)))

drop-last : (ws : List Float) (j : ℕ) → length ws ≡ j + 1 → drop j ws ≡ get_or ws j nan ∷ []
drop-last ws j h = drop-cons ws j nan (omega arith) ∙ ap (λ (l : List Float). get_or ws j nan ∷ l) (drop_of_length-le ws {i = suc j} (omega arith))

-- what `with_pair` answers
abbrev pub Taken : Bool → Float → Float → Float → Float → Bool → Float → Float → Type 0
Taken above least most x y a l m = (a ≡ (above && (lt 0· x && lt 0· y))) × (l ≡ lesser least (lesser x y)) × (m ≡ larger most (larger x y))

-- the pass by pairs: before turn i the weights from 2 * i on are left
module _ (ws : List Float) (i : ℕ) (above : Bool) (least most : Float) (p : Passed ws (drop (2 * i) ws) above least most) where
  pub turn : {a : Bool} {l m : Float} → 2 * i + 1 < length ws → Taken above least most (get_or ws (2 * i) nan) (get_or ws (2 * i + 1) nan) a l m → Passed ws (drop (2 * (i + 1)) ws) a l m
  turn h e = rw (e.0, e.1, e.2) (go (rw (drop-two ws (2 * i) (2 * (i + 1)) h (omega arith)) at p))

  pub even-end : length ws ≤ 2 * i → Told ws above least most
  even-end h = over (rw (drop_of_length-le ws h) at p)

  pub odd-end : {a : Bool} {l m : Float} (j : ℕ) → j ≡ 2 * i → length ws ≡ j + 1 → Taken above least most (get_or ws j nan) (get_or ws j nan) a l m → Told ws a l m
  odd-end j q h e = rw (e.0, e.1, e.2) (over-odd (rw (← q, drop-last ws j h) at p))

-- ---- the answer
empty : (ws : List Float) → length ws ≡ 0 → is_empty ws ≡ true
unfolding is_empty
empty [] h = refl
empty (w ∷ ws) h = absurd (omega arith)

pub none-refused : (ws : List Float) → length ws ≡ 0 → Refused ≡ weighed ws
unfolding weighed
none-refused ws h = simp (empty ws h)

-- what the pass told of some weights, and whether the largest is finite
module _ (ws : List Float) (h : length ws ≡ 0 → ⊥) (above finite : Bool) (least most : Float) (t : Told ws above least most) (f : finite ≡ is_finite most) where
  sound-is : sound ws ≡ (above && finite)
  sound-is = sound-by-most ws ∙ by above refl
    where
      by : (b : Bool) → above ≡ b → (all_above ws && is_finite (largest 0· ws)) ≡ (above && finite)
      by true e = rw (← t.is-above, ← t.is-most e, f)
      by false e = rw (← t.is-above, e)

  pub unsound-refused : (above && finite) ≡ false → Refused ≡ weighed ws
  unfolding weighed
  unsound-refused n = simp (sound-is, n, or-true)

  module _ (n : (above && finite) ≡ true) where
    is-sound : sound ws ≡ true
    is-sound = sound-is ∙ n

    all-above : above ≡ true
    all-above = ((and-eq-true_iff above finite).0 n).0

    vanishing-is : vanishing (largest 0· ws) ws ≡ eq (least ⊘ most) 0·
    vanishing-is = vanishing-by-least ws (omega arith) is-sound ∙ rw (t.is-least all-above, t.is-most all-above)

    pub vanishing-refused : eq (least ⊘ most) 0· ≡ true → Refused ≡ weighed ws
    unfolding weighed
    vanishing-refused v = simp (vanishing-is, v, or-true)

    pub scaled : eq (least ⊘ most) 0· ≡ false → Scale most ≡ weighed ws
    unfolding weighed
    scaled v = simp (not-empty ws (omega arith), is-sound, vanishing-is, v) (ap Scale (t.is-most all-above))
