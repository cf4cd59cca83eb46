-- A term of a function whose value is 0 adds nothing to a sum that is finite. Assumes nothing.
use mathlib.Core.Path.{◌≡◌, refl, sym, ap, ◌∙◌}
use mathlib.Core.Bool.{Bool, true, false, cond, ◌&&◌, and-eq-true_iff, true≢false, false≢true}
use mathlib.Core.List.{List}
use Prim.Native.Nat.{ℕ, zero, suc, ◌+◌, ◌*◌, ◌<◌}
use native.Mathlib.Nat.{zero-mul, one-mul, mul-one, zero-add, add-zero, sub-zero, mul-pos}
use native.Mathlib.Omega.{arith}
use lib.Dec.{T, ltb}
use lib.IntN.{ℤ, pos}
use lib.ListN.{get_or}
use lib.Ieee.{Float, nan, inf, fin, binary64, up, down, round, sum, neg, add, sub, eq, is_nan, fits, of_bits}
use lib.Ieee.Exact.{HasValue, round_exact}
use lib.Ieee.Fits.{up_pos, down_pos, mul-fits}
use lib.Ieee.Positive.{first_pos}
use lib.Ieee.Scale.{round_same}
use borrow.Author.Tests.{lt-ltb, le-ltb, ltb-true}
use Rattle.float64.specs.Compute as Float64
use Rattle.float64.specs.Operators.{◌⊕◌, ◌⊖◌, 0·}
use Rattle.float64.specs.Functions.{is_finite}
use Rattle.float64.specs.Order.{finite→number}
use Rattle.float64.specs.Units.{double, units-counted}
use Rattle.basis.specs.declared.Entry.{Entry}
use Rattle.basis.specs.declared.Term.{Term}
use Rattle.basis.specs.Signs.{Nought, missing, nothing, zero-nought, nought-mul, nought-div, nought-neg}
use Rattle.basis.specs.Rows.{absent, term_at, mix_of}
use Rattle.basis.proofs.Rows.{by}

-- ---- a sum with a zero of either sign, or a NaN

add-number : (x y : Float) → is_finite (x ⊕ y) ≡ true → (is_nan x ≡ false) × (is_nan y ≡ false)
unfolding add is_finite is_nan
add-number nan y h = absurd (false≢true h)
add-number (inf s) nan h = absurd (false≢true h)
add-number (inf s) (inf t) h = (refl, refl)
add-number (inf s) (fin t n d) h = (refl, refl)
add-number (fin s m e) nan h = absurd (false≢true h)
add-number (fin s m e) (inf t) h = (refl, refl)
add-number (fin s m e) (fin t n d) h = (refl, refl)

from-0 : {z : Float} → Nought z → is_nan (0· ⊕ z) ≡ false → 0· ⊕ z ≡ 0· ⊕ 0·
unfolding Float64.compute
from-0 missing h = absurd (true≢false h)
from-0 (nothing true) h = refl
from-0 (nothing false) h = refl

onto-0 : (s : Bool) (m : ℕ) (e : ℤ) → 0· ⊕ fin s m e ≡ round binary64 (s && ltb 0 m) (m * up e) (down e)
unfolding add sum of_bits
onto-0 false m e = simp (zero-mul, zero-add, mul-one, one-mul)
onto-0 true zero e = simp (zero-mul, one-mul)
onto-0 true (suc m) e = simp (zero-mul, sub-zero, mul-one, one-mul, lt-ltb 0 (suc m * up e) (mul-pos (omega arith) (up_pos e)), lt-ltb 0 (suc m) (omega arith))

more-0 : (s t : Bool) (a c : ℕ) → (s ≡ true → 0 < a) → sum binary64 s a t 0 c ≡ round binary64 s a c
unfolding sum
more-0 true true a c h = simp add-zero
more-0 false false a c h = simp add-zero
more-0 false true a c h = simp (sub-zero, le-ltb a 0 (omega arith))
more-0 true false a c h = simp (sub-zero, le-ltb a 0 (omega arith), lt-ltb 0 a (h refl))

more : (s : Bool) (m : ℕ) (e : ℤ) (t : Bool) → fin s m e ⊕ fin t 0 (pos 0) ≡ sum binary64 s (m * up e) t 0 (down e)
unfolding add
more s m e t = simp (zero-mul, mul-one)

-- x is a / c with the sign s, so it rounds to itself
keeps : (x : Float) (s : Bool) (a c : ℕ) → 0 < c → (s ≡ true → 0 < a) → HasValue x s a c → (t : Bool) → x ⊕ fin t 0 (pos 0) ≡ round binary64 s a c
keeps nan s a c p q v t = absurd v
keeps (inf r) s a c p q v t = absurd v
keeps (fin r m e) s a c p q v t =
    let above : r ≡ true → 0 < m * up e = λ h. first_pos (m * up e) c (rw v.1 (mul-pos (q (sym v.0 ∙ h)) (down_pos e))) in
    more r m e t ∙ more-0 r t (m * up e) (down e) above ∙ ap (λ (b : Bool). round binary64 b (m * up e) (down e)) v.0 ∙ round_same binary64 s (m * up e) (down e) a c (down_pos e) p v.1

stays-finite : (s : Bool) (m : ℕ) (e : ℤ) → T (fits binary64 (fin s m e)) → (t : Bool) → 0· ⊕ fin s m e ⊕ fin t 0 (pos 0) ≡ 0· ⊕ fin s m e
stays-finite s m e f t =
    let d = double s m e f in
    let b = s && ltb 0 m in
    let above : b ≡ true → 0 < m * up e = λ h. mul-pos (ltb-true 0 m ((and-eq-true_iff s (ltb 0 m)).0 h).1) (up_pos e) in
    let v : HasValue (round binary64 b (m * up e) (down e)) b (m * up e) (down e) = round_exact binary64 b (m * up e) (down e) m d.shift (down_pos e) d.short d.under (units-counted d) in
    rw (onto-0 s m e) (keeps (round binary64 b (m * up e) (down e)) b (m * up e) (down e) (down_pos e) above v t)

stays : (y : Float) {z : Float} → T (fits binary64 y) → Nought z → is_finite (0· ⊕ y ⊕ z) ≡ true → 0· ⊕ y ⊕ z ≡ 0· ⊕ y
unfolding add of_bits is_nan
stays y f missing h = absurd (true≢false (add-number (0· ⊕ y) nan h).1)
stays nan f (nothing t) h = refl
stays (inf s) f (nothing t) h = refl
stays (fin s m e) f (nothing t) h = stays-finite s m e f t

stays-less : (y : Float) {z : Float} → T (fits binary64 y) → Nought z → is_finite (0· ⊕ y ⊖ z) ≡ true → 0· ⊕ y ⊖ z ≡ 0· ⊕ y
unfolding sub
stays-less y f z h = stays y f (nought-neg z) h

sub_number : (x y : Float) → is_finite (x ⊖ y) ≡ true → is_nan x ≡ false
unfolding sub
sub_number x y h = (add-number x (neg y) h).0

-- ---- terms

-- of a function whose value is 0
pub record Still (a : Term) : Type 0 where
  rising : Nought a.rising
  falling : Nought a.falling
  first : Nought a.first

-- results of rounding
pub record Rounded (a : Term) : Type 0 where
  rising : T (fits binary64 a.rising)
  first : T (fits binary64 a.first)

either : (P : Term → Type 0) (t : Bool) {a b : Term} → P a → P b → P (cond t a b)
either P true p q = p
either P false p q = q

rounded-absent : Rounded absent
unfolding fits of_bits
rounded-absent = record { rising = tt; first = tt }

module _ (ks : List Float) (i d : ℕ) (n u : Float) where
  pub still-term : (y : Float) → Still (term_at ks i d n u 0· y)
  unfolding term_at
  still-term y =
      let z = zero-nought in
      let l = get_or ks (i + d) nan ⊖ get_or ks i nan in
      either Still (eq l 0·) (record { rising = z; falling = z; first = z }) (record { rising = nought-mul _ z; falling = nought-mul _ z; first = nought-mul n (nought-div zero-nought l) })

  pub rounded-term : (x y : Float) → Rounded (term_at ks i d n u x y)
  unfolding term_at
  rounded-term x y = either Rounded (eq (get_or ks (i + d) nan ⊖ get_or ks i nan) 0·) rounded-absent (record { rising = mul-fits binary64 _ _; first = mul-fits binary64 _ _ })

-- b stands for the term a: it is a, or absent where a adds nothing
pub data Stands (a b : Term) : Type 0 where
  itself : b ≡ a → Stands a b
  skipped : b ≡ absent → Still a → Stands a b

-- the value and first derivative of a sum
abbrev pub Fine : Entry → Type 0
Fine e = (is_finite e.value ≡ true) × (is_finite e.first ≡ true)

abbrev pub Alike : Entry → Entry → Type 0
Alike e f = (e.value ≡ f.value) × (e.first ≡ f.first)

skip-rising : (a b : Term) → Still a → Fine (mix_of a b) → Alike (mix_of a b) (mix_of absent b)
unfolding mix_of
skip-rising a b s f =
    by b.present
    (λ t.
    let x = from-0 s.rising (add-number (0· ⊕ a.rising) b.falling (simp t at f.0)).0 in
    let y = from-0 s.first (sub_number (0· ⊕ a.first) b.first (simp t at f.1)) in
    (simp (t, x), simp (t, y)))
    (λ t.
    let x = from-0 s.rising (finite→number (0· ⊕ a.rising) (simp t at f.0)) in
    let y = from-0 s.first (finite→number (0· ⊕ a.first) (simp t at f.1)) in
    (simp (t, x), simp (t, y)))

skip-falling : (a b : Term) → Rounded a → Still b → Fine (mix_of a b) → Alike (mix_of a b) (mix_of a absent)
unfolding mix_of
skip-falling a b r s f =
    by b.present
    (λ t. (simp t (stays a.rising r.rising s.falling (simp t at f.0)), simp t (stays-less a.first r.first s.first (simp t at f.1))))
    (λ t. (simp t, simp t))

pub alike : (a b a' b' : Term) → Rounded a → Stands a a' → Stands b b' → Fine (mix_of a b) → Alike (mix_of a b) (mix_of a' b')
alike a b a' b' r (itself p) (itself q) f = rw (p, q) (refl, refl)
alike a b a' b' r (itself p) (skipped q s) f = rw (p, q) (skip-falling a b r s f)
alike a b a' b' r (skipped p s) (itself q) f = rw (p, q) (skip-rising a b s f)
alike a b a' b' r (skipped p s) (skipped q t) f =
    let x = skip-rising a b s f in
    let y = skip-falling absent b rounded-absent t (rw x.0 at f.0, rw x.1 at f.1) in
    rw (p, q) (x.0 ∙ y.0, x.1 ∙ y.1)
