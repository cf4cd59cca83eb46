-- The order of floats, infinities included: `le` is a total preorder of the numbers, `lt` its strict part, `eq` both ways at once. Where a NaN stands each of the three is false.
-- Assumes nothing.
use Rattle.std.specs.Prelude.{◌≡◌, refl, ◌⊎◌, Bool, true, false, not, ◌&&◌, ◌||◌, cond, ℤ, Float}
use Rattle.std.proofs.Common.{sym, ◌∙◌, inl, inr, ⊎_elim, true≢false, zero-mul}
use Rattle.std.proofs.Math.Bool.{or-true, and-eq-true_iff, not-not}
use Rattle.std.proofs.lemmas.Bool.{false≢true, not-true}
use Rattle.std.proofs.lemmas.Float as Floats
use Rattle.std.proofs.lemmas.Float.{T_from_true, T_from_false}
use Rattle.std.specs.Float.{nan, inf, fin}
use Rattle.std.specs.Float.Ieee.{lt, le, eq, is_nan}
use Rattle.std.specs.Float.Ieee.Bits.{is_true, is_false}
use Rattle.float64.specs.Functions.{is_finite, larger, max}

-- ---- tests
-- two tests that pass together
pub agree : (p q : Bool) → (p ≡ true → q ≡ true) → (q ≡ true → p ≡ true) → p ≡ q
agree true q f g = sym (f refl)
agree false true f g = g refl
agree false false f g = refl

pub neither : (p q : Bool) → (p || q) ≡ false → (p ≡ false) × (q ≡ false)
neither true q h = absurd (true≢false h)
neither false q h = (refl, h)

pub never : (t : Bool) → (t ≡ true → ⊥) → t ≡ false
never true f = absurd (f refl)
never false f = refl

-- ---- the order's laws, each std's of the same tests
pub lt_not_le : (x y : Float) → is_nan x ≡ false → is_nan y ≡ false → lt x y ≡ not (le y x)
lt_not_le x y p q = by (le y x) refl
  where
    by : (t : Bool) → le y x ≡ t → lt x y ≡ not t
    by true h = never (lt x y) (λ k. Floats.lt_irrefl x (Floats.lt_of_lt_of_le x y x (T_from_true _ k) (T_from_true _ h)))
    by false h = is_true _ (Floats.lt_of_not-le y x (T_from_false _ q) (T_from_false _ p) (T_from_false _ h))

pub le_not_lt : (x y : Float) → is_nan x ≡ false → is_nan y ≡ false → le x y ≡ not (lt y x)
le_not_lt x y p q = simp (lt_not_le y x q p, not-not)

pub lt→le : (x y : Float) → lt x y ≡ true → le x y ≡ true
unfolding le
lt→le x y h = simp h

pub eq→le : (x y : Float) → eq x y ≡ true → le x y ≡ true
unfolding le
eq→le x y h = simp (h, or-true)

-- floats in order are numbers
pub le→number : (x y : Float) → le x y ≡ true → (is_nan x ≡ false) × (is_nan y ≡ false)
le→number x y h = (is_false _ (Floats.le_left x y (T_from_true _ h)), is_false _ (Floats.le_right x y (T_from_true _ h)))

pub le_total : (x y : Float) → is_nan x ≡ false → is_nan y ≡ false → (le x y ≡ true) ⊎ (le y x ≡ true)
le_total x y p q = by (le y x) refl
  where
    by : (t : Bool) → le y x ≡ t → (le x y ≡ true) ⊎ (le y x ≡ true)
    by true h = inr h
    by false h = inl (lt→le x y (simp (lt_not_le x y p q, h)))

pub le_refl : (x : Float) → is_nan x ≡ false → le x x ≡ true
le_refl x p = is_true _ (Floats.le_refl x (T_from_false _ p))

pub le_trans : (x y z : Float) → le x y ≡ true → le y z ≡ true → le x z ≡ true
le_trans x y z h k = is_true _ (Floats.le_trans x y z (T_from_true _ h) (T_from_true _ k))

pub lt→not-le : (x y : Float) → lt x y ≡ true → le y x ≡ false
lt→not-le x y h =
    let n = le→number x y (lt→le x y h) in
    not-true (le y x) (sym (lt_not_le x y n.0 n.1) ∙ h)

pub le→not-lt : (x y : Float) → le x y ≡ true → lt y x ≡ false
le→not-lt x y h =
    let n = le→number x y h in
    not-true (lt y x) (sym (le_not_lt x y n.0 n.1) ∙ h)

pub lt_irrefl : (x : Float) → lt x x ≡ false
lt_irrefl x = never (lt x x) (λ h. Floats.lt_irrefl x (T_from_true _ h))

pub lt-le-trans : (x y z : Float) → lt x y ≡ true → le y z ≡ true → lt x z ≡ true
lt-le-trans x y z h k = is_true _ (Floats.lt_of_lt_of_le x y z (T_from_true _ h) (T_from_true _ k))

pub le_lt_trans : (x y z : Float) → le x y ≡ true → lt y z ≡ true → lt x z ≡ true
le_lt_trans x y z h k = is_true _ (Floats.lt_of_le_of_lt x y z (T_from_true _ h) (T_from_true _ k))

pub lt_trans : (x y z : Float) → lt x y ≡ true → lt y z ≡ true → lt x z ≡ true
lt_trans x y z h k = lt-le-trans x y z h (lt→le y z k)

pub max-larger : (x y : Float) → is_nan x ≡ false → max x y ≡ larger x y
unfolding max
max-larger x y h = rw h

pub larger-number : (x y : Float) → is_nan x ≡ false → is_nan (larger x y) ≡ false
larger-number x y h = by (lt x y) refl
  where
    by : (t : Bool) → lt x y ≡ t → is_nan (cond t y x) ≡ false
    by true e = (le→number x y (lt→le x y e)).1
    by false e = h

pub finite→number : (x : Float) → is_finite x ≡ true → is_nan x ≡ false
unfolding is_finite is_nan
finite→number nan h = absurd (false≢true h)
finite→number (inf s) h = refl
finite→number (fin s m e) h = refl

-- ---- equal numbers
pub le_antisym : (x y : Float) → le x y ≡ true → le y x ≡ true → eq x y ≡ true
le_antisym x y h k =
    ⊎_elim (λ l. absurd (Floats.lt_irrefl x (Floats.lt_of_lt_of_le x y x l (T_from_true _ k)))) (is_true _)
    (Floats.lt-or-eq x y (T_from_true _ h))

pub eq-sym : (x y : Float) → eq x y ≡ eq y x
eq-sym x y = agree _ _ (λ h. is_true _ (Floats.eq_flip x y (T_from_true _ h))) (λ h. is_true _ (Floats.eq_flip y x (T_from_true _ h)))

pub eq-le-le : (x y : Float) → eq x y ≡ (le x y && le y x)
eq-le-le x y =
    agree _ _ (λ h. simp (eq→le x y h, eq→le y x (eq-sym y x ∙ h)))
    (λ h. let t = (and-eq-true_iff (le x y) (le y x)).0 h in le_antisym x y t.0 t.1)

pub eq_refl : (x : Float) → is_nan x ≡ false → eq x x ≡ true
eq_refl x p = simp (eq-le-le x x, le_refl x p)

pub eq_trans : (x y z : Float) → eq x y ≡ true → eq y z ≡ true → eq x z ≡ true
eq_trans x y z h k = is_true _ (Floats.eq_trans x y z (T_from_true _ h) (T_from_true _ k))

pub eq-lt : (x y z : Float) → eq x y ≡ true → lt y z ≡ true → lt x z ≡ true
eq-lt x y z h k = le_lt_trans x y z (eq→le x y h) k

pub lt-eq : (x y z : Float) → lt x y ≡ true → eq y z ≡ true → lt x z ≡ true
lt-eq x y z h k = lt-le-trans x y z h (eq→le y z k)

pub eq-le : (x y z : Float) → eq x y ≡ true → le y z ≡ true → le x z ≡ true
eq-le x y z h k = le_trans x y z (eq→le x y h) k

pub le-eq : (x y z : Float) → le x y ≡ true → eq y z ≡ true → le x z ≡ true
le-eq x y z h k = le_trans x y z h (eq→le y z k)

-- zeros of any signs are equal
pub eq-zeros : (s t : Bool) (e d : ℤ) → eq (fin s 0 e) (fin t 0 d) ≡ true
unfolding eq
eq-zeros s t e d = simp (zero-mul, or-true)
