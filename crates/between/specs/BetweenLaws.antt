-- Each eighth of the way from a double up to another lies between the two, where it is finite (`eighth-between`): x ⊕ (y ⊖ x) ⊗ j ⊘ 8 for x ≤ y and j ≤ 7. For j = 8 it need not, as with x = -1 and y = 3 * 2 ^ -54.
-- Why: in units of the smallest double the exact difference D lies between an L and an H of at most 5 binary digits, zeros after them not counted, with 7 * H ≤ 8 * L. Rounding keeps the order, and leaves
-- L, H and 8 * L as they are. So the rounded difference is at most H, its j-fold at most 8 * L, and the eighth of that at most L, and D. So x and that eighth come to y at most, and the last rounding keeps that too.
-- Assumes nothing.
use Rattle.std.specs.Prelude.{◌≡◌, ◌⊎◌, Bool, not, ◌&&◌, ◌||◌, cond, ℕ, suc, ◌+◌, ◌-◌, ◌*◌, ◌/◌, ◌^◌, ◌≤◌, ◌<◌, ℤ, T, leb, Float}
use Rattle.std.proofs.Math.Path.{refl}
use Rattle.std.proofs.Common.{sym, ap, ◌∙◌, subst, inl, inr, true≢false, zero-le, le_trans, le_of_eq, lt_of_lt_of_le, eq-or-lt_of_le, zero-mul, mul-one, suc-mul, add-mul, mul_comm, mul_assoc, mul_right_comm, mul-pos, mul-le-mul, mul-le-mul_right, le_of_mul-le-mul_right, lt_of_mul-lt-mul_right, mul-lt-mul_of_pos_right, le-div_iff_mul-le, div-mul-le_self, arith, lit<, pow-add, pow_pos, pow_mono, ltb-true, ltb-false, leb-true, leb-false, lt-ltb, le-ltb}
use Rattle.std.proofs.Math.Bool.{true, false}
use Rattle.std.proofs.lemmas.Bool.{false≢true}
use Rattle.std.proofs.lemmas.Bool.Decides.{nat_tests}
use Rattle.std.proofs.Math.Nat.{le_of_lt, mul-mul-mul_comm, lt-div-mul-add}
use Rattle.std.proofs.Math.Dec.{ltb}
use Rattle.std.specs.Float.{nan, inf, fin}
use Rattle.std.specs.Float.Ieee.{binary64, up, down, size, odd, units, round, unlike, neg, sum, add, sub, mul, div, below, level, le, of_bits, fits}
use Rattle.std.specs.Float.Ieee.Bits.{is_true}
use Rattle.std.specs.Float.Ieee.Digits.{size-lt, size_reaches}
use Rattle.std.specs.Float.Ieee.Exact.{HasValue, odd_sign, round_exact}
use Rattle.std.specs.Float.Ieee.Back.{round_whole}
use Rattle.std.specs.Float.Ieee.Fits.{down_pos, kept-lt, round_is}
use Rattle.std.specs.Float.Ieee.Order.{drop, kept, round_mono}
use Rattle.std.specs.Float.Ieee.Scale.{grid, round_same, round_val}
use Rattle.float64.specs.Operators.{◌⊕◌, ◌⊖◌, ◌⊗◌, ◌⊘◌, 8·, of_nat}
use Rattle.float64.specs.Functions.{is_finite, units_of}
use Rattle.float64.specs.Order.{agree}
use Rattle.float64.specs.Units.{sub-mul, Double, double, units-shifted, own-units}

-- ---- the order, as one of sizes with signs

-- ±a ≤ ±b
AtMost : Bool → ℕ → Bool → ℕ → Type 0
AtMost false a false b = a ≤ b
AtMost false a true b = a + b ≤ 0
AtMost true a false b = 0 ≤ a + b
AtMost true a true b = b ≤ a

at-most-tests : (s : Bool) (a : ℕ) (t : Bool) (b : ℕ) → AtMost s a t b → (below s a t b || level s a t b) ≡ true
unfolding AtMost
at-most-tests false a false b h = grind (arith, nat_tests)
at-most-tests false a true b h = grind (arith, nat_tests)
at-most-tests true a false b h = grind (arith, nat_tests)
at-most-tests true a true b h = grind (arith, nat_tests)

tests-at-most : (s : Bool) (a : ℕ) (t : Bool) (b : ℕ) → (below s a t b || level s a t b) ≡ true → AtMost s a t b
unfolding AtMost
tests-at-most false a false b h = grind (arith, nat_tests)
tests-at-most false a true b h = grind (arith, nat_tests)
tests-at-most true a false b h = grind (arith, nat_tests)
tests-at-most true a true b h = grind (arith, nat_tests)

-- sizes over another denominator
rescaled : (s : Bool) (a : ℕ) (t : Bool) (b A B c z : ℕ) → 0 < c → A * c ≡ a * z → B * c ≡ b * z → AtMost s a t b → AtMost s A t B
unfolding AtMost
rescaled false a false b A B c z C p q h = le_of_mul-le-mul_right (rw (p, q) (mul-le-mul_right z h)) C
rescaled false a true b A B c z C p q h = le_of_mul-le-mul_right (rw (add-mul A B c, p, q, ← add-mul a b z, zero-mul c) (le_trans (mul-le-mul_right z h) (le_of_eq (zero-mul z)))) C
rescaled true a false b A B c z C p q h = zero-le
rescaled true a true b A B c z C p q h = le_of_mul-le-mul_right (rw (p, q) (mul-le-mul_right z h)) C

-- x is ±a units
data Is : Float → Bool → ℕ → Type 0 where
  is : (s : Bool) (m : ℕ) (e : ℤ) (a : ℕ) → m * up e * 2 ^ 1074 ≡ a * down e → Is (fin s m e) s a

of-value : (x : Float) (s : Bool) (a : ℕ) → HasValue x s a (2 ^ 1074) → Is x s a
of-value nan s a v = absurd v
of-value (inf t) s a v = absurd v
of-value (fin t m e) s a v = subst (λ (r : Bool). Is (fin t m e) r a) v.0 (is t m e a v.1)

-- two sizes over the product of their denominators, as the operations have them
aligned : (m n : ℕ) (e d : ℤ) (a b c : ℕ) → m * up e * c ≡ a * down e → n * up d * c ≡ b * down d
    → (m * up e * down d * c ≡ a * (down e * down d)) × (n * up d * down e * c ≡ b * (down e * down d))
aligned m n e d a b c h k = (
  mul_right_comm (m * up e) (down d) c ∙ ap (λ (z : ℕ). z * down d) h ∙ mul_assoc a (down e) (down d),
  mul_right_comm (n * up d) (down e) c ∙ ap (λ (z : ℕ). z * down e) k ∙ mul_right_comm b (down d) (down e) ∙ mul_assoc b (down e) (down d),
)

both-down : (e d : ℤ) → 0 < down e * down d
both-down e d = mul-pos (down_pos e) (down_pos d)

le-of-units : {x y : Float} {s t : Bool} {a b : ℕ} → Is x s a → Is y t b → AtMost s a t b → le x y ≡ true
unfolding le
le-of-units (is s m e a h) (is t n d b k) l =
    let (p, q) = aligned m n e d a b (2 ^ 1074) h k in
    at-most-tests s (m * up e * down d) t (n * up d * down e) (rescaled s a t b (m * up e * down d) (n * up d * down e) (2 ^ 1074) (down e * down d) (pow_pos 1074) p q l)

units-of-le : {x y : Float} {s t : Bool} {a b : ℕ} → Is x s a → Is y t b → le x y ≡ true → AtMost s a t b
unfolding le
units-of-le (is s m e a h) (is t n d b k) l =
    let (p, q) = aligned m n e d a b (2 ^ 1074) h k in
    rescaled s (m * up e * down d) t (n * up d * down e) a b (down e * down d) (2 ^ 1074) (both-down e d) (sym p) (sym q) (tests-at-most s (m * up e * down d) t (n * up d * down e) l)

-- ---- the operations on sizes

ltb-rescaled : (A B a b c z : ℕ) → 0 < c → 0 < z → A * c ≡ a * z → B * c ≡ b * z → ltb A B ≡ ltb a b
ltb-rescaled A B a b c z C Z p q =
    agree (ltb A B) (ltb a b) (λ h. lt-ltb a b (lt_of_mul-lt-mul_right z (rw (← p, ← q) (mul-lt-mul_of_pos_right (ltb-true A B h) C))))
    (λ h. lt-ltb A B (lt_of_mul-lt-mul_right c (rw (p, q) (mul-lt-mul_of_pos_right (ltb-true a b h) Z))))

pub sum-rescaled : (s : Bool) (A : ℕ) (t : Bool) (B a b c z : ℕ) → 0 < c → 0 < z → A * c ≡ a * z → B * c ≡ b * z → sum binary64 s A t B z ≡ sum binary64 s a t b c
unfolding sum
sum-rescaled s A t B a b c z C Z p q =
    rw (
      ltb-rescaled A B a b c z C Z p q,
      ltb-rescaled B A b a c z C Z q p,
      round_same binary64 s (A + B) z (a + b) c Z C (simp (add-mul, p, q)),
      round_same binary64 t (B - A) z (b - a) c Z C (simp (sub-mul, p, q)),
      round_same binary64 (s && ltb b a) (A - B) z (a - b) c Z C (simp (sub-mul, p, q)),
    )

add-units : {x y : Float} {s t : Bool} {a b : ℕ} → Is x s a → Is y t b → x ⊕ y ≡ sum binary64 s a t b (2 ^ 1074)
unfolding add
add-units (is s m e a h) (is t n d b k) =
    let (p, q) = aligned m n e d a b (2 ^ 1074) h k in
    sum-rescaled s (m * up e * down d) t (n * up d * down e) a b (2 ^ 1074) (down e * down d) (pow_pos 1074) (both-down e d) p q

neg-units : {x : Float} {s : Bool} {a : ℕ} → Is x s a → Is (neg x) (not s) a
unfolding neg
neg-units (is s m e a h) = is (not s) m e a h

sub-units : {x y : Float} {s t : Bool} {a b : ℕ} → Is x s a → Is y t b → x ⊖ y ≡ sum binary64 s a (not t) b (2 ^ 1074)
unfolding sub
sub-units p q = add-units p (neg-units q)

unlike-plus : (s : Bool) → unlike s false ≡ s
unlike-plus true = refl
unlike-plus false = refl

times-units : {x : Float} {s : Bool} {a : ℕ} → Is x s a → (y : Float) (j : ℕ) → HasValue y false j 1 → x ⊗ y ≡ round binary64 s (a * j) (2 ^ 1074)
unfolding mul
times-units (is s m e a h) nan j v = absurd v
times-units (is s m e a h) (inf t) j v = absurd v
times-units (is s m e a h) (fin true n d) j v = absurd (true≢false v.0)
times-units (is s m e a h) (fin false n d) j v =
    let k : n * up d ≡ j * down d = sym (mul-one (n * up d)) ∙ v.1 in
    rw (unlike-plus s)
    (round_same binary64 s (m * up e * (n * up d)) (down e * down d) (a * j) (2 ^ 1074) (both-down e d) (pow_pos 1074)
    (mul_right_comm (m * up e) (n * up d) (2 ^ 1074) ∙ rw (h, k) (mul-mul-mul_comm a (down e) j (down d))))

eighth-units : {x : Float} {s : Bool} {a : ℕ} → Is x s a → x ⊘ 8· ≡ round binary64 s a (2 ^ 1074 * 8)
unfolding div of_bits
eighth-units (is s m e a h) =
    rw (unlike-plus s)
    (round_same binary64 s (m * up e * 1) (8 * down e) a (2 ^ 1074 * 8) (mul-pos (lit< tt) (down_pos e)) (lit< tt)
    (ap (λ (z : ℕ). z * (2 ^ 1074 * 8)) (mul-one (m * up e)) ∙ sym (mul_assoc (m * up e) (2 ^ 1074) 8) ∙ ap (λ (z : ℕ). z * 8) h ∙ mul_assoc a (down e) 8 ∙ ap (λ (z : ℕ). a * z) (mul_comm (down e) 8)))

-- ---- rounding

-- x is a / c rounded, finite
record Rounded (x : Float) (s : Bool) (a c : ℕ) : Type 0 where
  value : Is x s (grid binary64 a c)
  under : grid binary64 a c < 2 ^ 2098

rounded : (x : Float) (s : Bool) (a c : ℕ) → x ≡ round binary64 s a c → is_finite x ≡ true → Rounded x s a c
unfolding units is_finite
rounded x s a c e f =
    let q = kept 53 (a * 2 ^ 1074) c in
    let k = drop 53 (a * 2 ^ 1074) c in
    let w = e ∙ round_is binary64 s a c in
    let (v, u) = go q k (ltb (q * 2 ^ k) (2 ^ 2098)) (ltb-true (q * 2 ^ k) (2 ^ 2098)) (rw w at f) in
    record { value = rw w v; under = u }
  where
    go : (q k : ℕ) (t : Bool) → (t ≡ true → q * 2 ^ k < 2 ^ 2098) → is_finite (cond t (odd 54 s q k 1074) (inf s)) ≡ true
        → (Is (cond t (odd 54 s q k 1074) (inf s)) s (q * 2 ^ k)) × (q * 2 ^ k < 2 ^ 2098)
    go q k true h f = (of-value (odd 54 s q k 1074) s (q * 2 ^ k) (odd_sign 54 s q k 1074), h refl)
    go q k false h f = absurd (false≢true f)

-- q with k zeros, which a double holds where it does not overflow, and a fraction: their order is that of the number and the rounded fraction
module _ (a c q k : ℕ) (C : 0 < c) (short : q < 2 ^ 53) (under : grid binary64 a c < 2 ^ 2098) where
  fraction : Is (round binary64 false a c) false (grid binary64 a c)
  fraction = of-value (round binary64 false a c) false (grid binary64 a c) (round_val binary64 a c under)

  whole : q * 2 ^ k < 2 ^ 2098 → Is (round binary64 false (q * 2 ^ k) (2 ^ 1074)) false (q * 2 ^ k)
  whole h = of-value (round binary64 false (q * 2 ^ k) (2 ^ 1074)) false (q * 2 ^ k) (round_exact binary64 false (q * 2 ^ k) (2 ^ 1074) q k (pow_pos 1074) short h refl)

  grid-le : a * 2 ^ 1074 ≤ q * 2 ^ k * c → grid binary64 a c ≤ q * 2 ^ k
  unfolding AtMost
  grid-le l = go (ltb (q * 2 ^ k) (2 ^ 2098)) refl
    where
      go : (t : Bool) → ltb (q * 2 ^ k) (2 ^ 2098) ≡ t → grid binary64 a c ≤ q * 2 ^ k
      go true h = units-of-le fraction (whole (ltb-true (q * 2 ^ k) (2 ^ 2098) h)) (is_true _ (round_mono binary64 a c (q * 2 ^ k) (2 ^ 1074) C (pow_pos 1074) l))
      go false h = le_of_lt (lt_of_lt_of_le under (ltb-false (q * 2 ^ k) (2 ^ 2098) h))

  grid-ge : q * 2 ^ k < 2 ^ 2098 → q * 2 ^ k * c ≤ a * 2 ^ 1074 → q * 2 ^ k ≤ grid binary64 a c
  unfolding AtMost
  grid-ge h l = units-of-le (whole h) fraction (is_true _ (round_mono binary64 (q * 2 ^ k) (2 ^ 1074) a c (pow_pos 1074) C l))

-- ---- seven eighths of a difference

-- low and high with shift zeros have D between them, and are close
record Frame (D : ℕ) : Type 0 where
  low : ℕ
  high : ℕ
  shift : ℕ
  at_least : low * 2 ^ shift ≤ D
  at_most : D ≤ high * 2 ^ shift
  close : 7 * high ≤ 8 * low
  short : low < 2 ^ 4

-- the 4 leading digits, and one more where others follow
frame : (D : ℕ) → Frame D
frame D = go (leb (size D) 4) refl
  where
    go : (t : Bool) → leb (size D) 4 ≡ t → Frame D
    go true h = record {
      low = D;
      high = D;
      shift = 0;
      at_least = le_of_eq (mul-one D);
      at_most = le_of_eq (sym (mul-one D));
      close = omega arith;
      short = lt_of_lt_of_le (size-lt D) (pow_mono (leb-true (size D) 4 h));
    }
    go false h =
        let z : 4 < size D = leb-false (size D) 4 h in
        let k = size D - 4 in
        let q = D / 2 ^ k in
        let r : 2 ^ 3 * 2 ^ k ≤ D = le_trans (le_of_eq (sym (pow-add 2 3 k))) (size_reaches D (3 + k) (omega arith)) in
        let g : 2 ^ 3 ≤ q = (le-div_iff_mul-le (pow_pos k)).1 r in
        record {
          low = q;
          high = suc q;
          shift = k;
          at_least = div-mul-le_self D (2 ^ k);
          at_most = rw (suc-mul q (2 ^ k)) (le_of_lt (lt-div-mul-add (pow_pos k)));
          close = omega arith;
          short = kept-lt 4 D;
        }

seven : (g j L H P : ℕ) → j ≤ 7 → g ≤ H * P → 7 * H ≤ 8 * L → g * j ≤ 8 * L * P
seven g j L H P few h close = le_trans (mul-le-mul h few) (omega (arith, mul-le-mul_right P close))

eight : (g L P u : ℕ) → g ≤ 8 * L * P → g * u ≤ L * P * (u * 8)
eight g L P u h = le_trans (mul-le-mul_right u h) (omega arith)

-- the difference D rounded, j times that rounded, and the eighth of that rounded
part-le : (D g p r j : ℕ) → j ≤ 7 → g ≡ grid binary64 D (2 ^ 1074) → p ≡ grid binary64 (g * j) (2 ^ 1074) → r ≡ grid binary64 p (2 ^ 1074 * 8)
    → g < 2 ^ 2098 → p < 2 ^ 2098 → r < 2 ^ 2098 → r ≤ D
part-le D g p r j few G P R g-under p-under r-under =
    let F = frame D in
    let L = F.low in
    let H = F.high in
    let k = F.shift in
    let u = 2 ^ 1074 in
    let g-le : g ≤ H * 2 ^ k = rw G (grid-le D u H k (pow_pos 1074) (omega (arith, F.close, F.short)) (rw G at g-under) (mul-le-mul_right u F.at_most)) in
    let p-le : p ≤ 8 * L * 2 ^ k = rw P (grid-le (g * j) u (8 * L) k (pow_pos 1074) (omega (arith, F.short)) (rw P at p-under) (mul-le-mul_right u (seven g j L H (2 ^ k) few g-le F.close))) in
    let r-le : r ≤ L * 2 ^ k = rw R (grid-le p (u * 8) L k (lit< tt) (omega (arith, F.short)) (rw R at r-under) (eight p L (2 ^ k) u p-le)) in
    le_trans r-le F.at_least

-- ---- the sum

-- rounding does not step over a units
record Held (a : ℕ) : Type 0 where
  from-below : (n : ℕ) → grid binary64 n (2 ^ 1074) < 2 ^ 2098 → n ≤ a → grid binary64 n (2 ^ 1074) ≤ a
  from-above : (n : ℕ) → grid binary64 n (2 ^ 1074) < 2 ^ 2098 → a ≤ n → a ≤ grid binary64 n (2 ^ 1074)

held : {m : ℕ} {e : ℤ} → Double m e → Held (units_of m e)
held {m} {e} d =
    let u = 2 ^ 1074 in
    rw (units-shifted d)
    (record {
      from-below = λ n under l. grid-le n u m d.shift (pow_pos 1074) d.short under (mul-le-mul_right u l);
      from-above = λ n under l. grid-ge n u m d.shift (pow_pos 1074) d.short under d.under (mul-le-mul_right u l);
    })

-- from ±a up to ±b
gap : Bool → ℕ → Bool → ℕ → ℕ
gap false a false b = b - a
gap false a true b = 0
gap true a false b = b + a
gap true a true b = a - b

-- as a float it is negative only from +0 to -0
gap-rounded : (s : Bool) (a : ℕ) (t : Bool) (b c : ℕ) → AtMost s a t b → sum binary64 t b (not s) a c ≡ round binary64 (not s && t) (gap s a t b) c
unfolding AtMost gap sum
gap-rounded false a false b c h = rw (le-ltb b a h)
gap-rounded false a true b c h = let z : b + a ≡ 0 = omega arith in ap (λ (n : ℕ). round binary64 true n c) z
gap-rounded true a false b c h = refl
gap-rounded true a true b c h = elim (eq-or-lt_of_le h) [
  | inl e ↦ let z : b - a ≡ a - b = omega arith in rw (le-ltb b a (omega arith), le-ltb a b h) (ap (λ (n : ℕ). round binary64 false n c) z)
  | inr l ↦ rw (lt-ltb b a l)
]

sum-down : (a r c : ℕ) → r < a → sum binary64 true a false r c ≡ round binary64 true (a - r) c
unfolding sum
sum-down a r c h = rw (le-ltb a r (le_of_lt h), lt-ltb r a h)

lt-or-le : (m n : ℕ) → (m < n) ⊎ (n ≤ m)
lt-or-le m n = by (ltb m n) (ltb-true m n) (ltb-false m n)
  where
    by : (t : Bool) → (t ≡ true → m < n) → (t ≡ false → n ≤ m) → (m < n) ⊎ (n ≤ m)
    by true f g = inl (f refl)
    by false f g = inr (g refl)

settled : {x y : Float} {s t : Bool} {a b : ℕ} → Is x s a → Is y t b → (v : Float) → is_finite v ≡ true → (z : Bool) (n : ℕ) → v ≡ round binary64 z n (2 ^ 1074)
    → (grid binary64 n (2 ^ 1074) < 2 ^ 2098 → (AtMost s a z (grid binary64 n (2 ^ 1074))) × (AtMost z (grid binary64 n (2 ^ 1074)) t b))
    → (le x v ≡ true) × (le v y ≡ true)
settled p q v f z n e h =
    let R = rounded v z n (2 ^ 1074) e f in
    let (l, k) = h R.under in
    (le-of-units p R.value l, le-of-units R.value q k)

-- a part of the way from ±a up to ±b, added to ±a
sum-between : {x y : Float} (s t : Bool) (a b r : ℕ) → Is x s a → Is y t b → Held a → Held b → AtMost s a t b → r ≤ gap s a t b
    → (v : Float) → is_finite v ≡ true → v ≡ sum binary64 s a (not s && t) r (2 ^ 1074) → (le x v ≡ true) × (le v y ≡ true)
unfolding AtMost gap sum
sum-between false false a b r p q A B h l v f e = settled p q v f false (a + r) e (λ u. (A.from-above (a + r) u (omega arith), B.from-below (a + r) u (omega arith)))
sum-between false true a b r p q A B h l v f e =
    settled p q v f false (a - r) (e ∙ rw (le-ltb a r (omega arith))) (λ u. (omega arith, omega (arith, A.from-below (a - r) u (omega arith))))
sum-between true false a b r p q A B h l v f e = elim (lt-or-le r a) [
  | inl g ↦ settled p q v f true (a - r) (e ∙ sum-down a r (2 ^ 1074) g) (λ u. (A.from-below (a - r) u (omega arith), zero-le))
  | inr g ↦ settled p q v f false (r - a) (e ∙ gap-rounded true r true a (2 ^ 1074) g) (λ u. (zero-le, B.from-below (r - a) u (omega arith)))
]
sum-between true true a b r p q A B h l v f e = elim (lt-or-le r a) [
  | inl g ↦ settled p q v f true (a - r) (e ∙ sum-down a r (2 ^ 1074) g) (λ u. (A.from-below (a - r) u (omega arith), B.from-above (a - r) u (omega arith)))
  | inr g ↦ settled p q v f false (r - a) (e ∙ gap-rounded true r true a (2 ^ 1074) g) (λ u. (zero-le, omega (arith, B.from-below (r - a) u (omega arith))))
]

-- ---- what is finite has finite operands

add-finite : (x y : Float) → is_finite (x ⊕ y) ≡ true → (is_finite x ≡ true) × (is_finite y ≡ true)
unfolding add is_finite
add-finite nan y h = absurd (false≢true h)
add-finite (inf s) nan h = absurd (false≢true h)
add-finite (inf s) (inf t) h = grind arith
add-finite (inf s) (fin t n d) h = absurd (false≢true h)
add-finite (fin s m e) nan h = absurd (false≢true h)
add-finite (fin s m e) (inf t) h = absurd (false≢true h)
add-finite (fin s m e) (fin t n d) h = (refl, refl)

sub-finite : (x y : Float) → is_finite (x ⊖ y) ≡ true → is_finite x ≡ true
unfolding sub
sub-finite x y h = (add-finite x (neg y) h).0

times-finite : (x y : Float) → is_finite (x ⊗ y) ≡ true → is_finite x ≡ true
unfolding mul is_finite
times-finite nan y h = absurd (false≢true h)
times-finite (inf s) nan h = absurd (false≢true h)
times-finite (inf s) (inf t) h = absurd (false≢true h)
times-finite (inf s) (fin t n d) h = grind arith
times-finite (fin s m e) y h = refl

eighth-finite : (x : Float) → is_finite (x ⊘ 8·) ≡ true → is_finite x ≡ true
unfolding div of_bits is_finite
eighth-finite nan h = h
eighth-finite (inf s) h = h
eighth-finite (fin s m e) h = refl

-- ---- the law

-- x as the steps above have it
record End (x : Float) : Type 0 where
  sign : Bool
  count : ℕ
  value : Is x sign count
  stays : Held count

end : (x : Float) → T (fits binary64 x) → is_finite x ≡ true → End x
unfolding is_finite
end nan g f = absurd (false≢true f)
end (inf s) g f = absurd (false≢true f)
end (fin s m e) g f = record { sign = s; count = units_of m e; value = of-value (fin s m e) s (units_of m e) (own-units s m e g); stays = held (double s m e g) }

pub eighth-between : (x y : Float) (j : ℕ) → T (fits binary64 x) → T (fits binary64 y) → le x y ≡ true → j ≤ 7
    → let v = x ⊕ (y ⊖ x) ⊗ of_nat j ⊘ 8· in is_finite v ≡ true → (le x v ≡ true) × (le v y ≡ true)
unfolding of_nat
eighth-between x y j F G l few f =
    let u = 2 ^ 1074 in
    let d = y ⊖ x in
    let p = d ⊗ of_nat j in
    let r = p ⊘ 8· in
    let (x-finite, r-finite) = add-finite x r f in
    let p-finite = eighth-finite p r-finite in
    let d-finite = times-finite d (of_nat j) p-finite in
    let X = end x F x-finite in
    let Y = end y G (sub-finite y x d-finite) in
    let z = not X.sign && Y.sign in
    let D = gap X.sign X.count Y.sign Y.count in
    let order = units-of-le X.value Y.value l in
    let d-is = rounded d z D u (sub-units Y.value X.value ∙ gap-rounded X.sign X.count Y.sign Y.count u order) d-finite in
    let g = grid binary64 D u in
    let p-is = rounded p z (g * j) u (times-units d-is.value (of_nat j) j (round_whole binary64 false j (omega arith))) p-finite in
    let r-is = rounded r z (grid binary64 (g * j) u) (u * 8) (eighth-units p-is.value) r-finite in
    let part = part-le D g (grid binary64 (g * j) u) (grid binary64 (grid binary64 (g * j) u) (u * 8)) j few refl refl refl d-is.under p-is.under r-is.under in
    sum-between X.sign Y.sign X.count Y.count (grid binary64 (grid binary64 (g * j) u) (u * 8)) X.value Y.value X.stays Y.stays order part (x ⊕ r) f (add-units X.value r-is.value)
