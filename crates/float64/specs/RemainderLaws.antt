-- The truncated remainder of two doubles is exact (`rem-exact`), so `rem_euclid` rounds at most once, in its sum (`rem-euclid-exact`; `rem-euclid-special` has NaN, the infinities and a zero divisor).
-- Why: the remainder is a multiple of the lower of the two last places, and it is less than y and not more than x, one of which has at most 53 digits from that place on. Assumes nothing.
use Rattle.std.specs.Prelude.{◌≡◌, refl, Bool, true, false, not, cond, ◌⊎◌, ℕ, ◌+◌, ◌-◌, ◌*◌, ◌/◌, ◌%◌, ◌^◌, ◌≤◌, ◌<◌, ℤ, T, leb, Float}
use Rattle.std.proofs.Common.{sym, ap, ap₂, ◌∙◌, subst, true≢false, inl, inr, le_refl, le_trans, le_of_lt, lt_of_le_of_lt, mul_comm, mul_assoc, mul_right_comm, add-mul, mul-pos, mul-le-mul_right, mul-lt-mul_of_pos_right, lt_of_mul-lt-mul_right, mod-lt, sub-le, le_of_eq, eq-zero-or-pos, div-add-mod', arith, leb→le, pow-add, pow_pos, lt-ltb, le-ltb, ne_eqb}
use Rattle.std.proofs.lemmas.Bool.{false≢true}
use Rattle.std.proofs.Math.Nat.{mod-le}
use Rattle.std.proofs.Math.Dec.{nleb→lt}
use Rattle.std.proofs.Math.Arith.{digits_mod}
use Rattle.std.specs.Float.{nan, inf, fin, Format, binary64}
use Rattle.std.specs.Float.Ieee.{up, down, round, sum, add, rem, lt, le, of_bits, fits}
use Rattle.std.specs.Float.Ieee.Fits.{up_pos, down_pos}
use Rattle.std.specs.Float.Ieee.Exact.{HasValue, round_exact}
use Rattle.std.specs.Float.Ieee.Bits.{is_true}
use Rattle.std.specs.Float.Ieee.Order.{round_mono, le_of_values}
use Rattle.std.specs.Float.Ieee.Scale.{round_same}
use Rattle.std.specs.Float.Ieee.Positive.{first_pos}
use Rattle.float64.specs.Operators.{◌⊕◌, 0·, 1·}
use Rattle.float64.specs.Functions.{is_finite, abs, rem_euclid}
use Rattle.float64.specs.Compute.{compute}
use Rattle.float64.specs.Order as Order
use Rattle.float64.specs.Nonneg.{nonneg-not-below, round-nonneg}
use Rattle.float64.specs.Units.{sub-mul, Double, double, units-counted}

-- ---- remainders of multiples

pub mod-scale : (x y c : ℕ) → 0 < y → 0 < c → x * c % (y * c) ≡ x % y * c
mod-scale x y c Y C =
    ap (λ (z : ℕ). z % (y * c)) (ap (λ (z : ℕ). z * c) (sym (div-add-mod' x y)) ∙ add-mul (x / y * y) (x % y) c ∙ ap (λ (z : ℕ). z + x % y * c) (mul_assoc (x / y) y c))
    ∙ digits_mod (x / y) (mul-lt-mul_of_pos_right (mod-lt x Y) C)

pub raise : (n i j : ℕ) → j ≤ i → n * 2 ^ i ≡ n * 2 ^ (i - j) * 2 ^ j
raise n i j h = grind (arith, pow-add)

-- with the lower of the two exponents taken out, the remainder is no longer than the significand that has it
short : (p m j n i : ℕ) → m < 2 ^ p → n < 2 ^ p → 0 < n → (q : ℕ) × (k : ℕ) × (q < 2 ^ p) × (m * 2 ^ j % (n * 2 ^ i) ≡ q * 2 ^ k)
short p m j n i M N P = go (leb j i) (leb→le j i) (nleb→lt j i)
  where
    go : (b : Bool) → (T b → j ≤ i) → (T (not b) → i < j) → (q : ℕ) × (k : ℕ) × (q < 2 ^ p) × (m * 2 ^ j % (n * 2 ^ i) ≡ q * 2 ^ k)
    go true h g = (
      m % (n * 2 ^ (i - j)),
      j,
      lt_of_le_of_lt (mod-le m (n * 2 ^ (i - j))) M,
      ap (λ (z : ℕ). m * 2 ^ j % z) (raise n i j (h tt)) ∙ mod-scale m (n * 2 ^ (i - j)) (2 ^ j) (mul-pos P (pow_pos (i - j))) (pow_pos j),
    )
    go false h g = (
      m * 2 ^ (j - i) % n,
      i,
      lt_of_le_of_lt (le_of_lt (mod-lt (m * 2 ^ (j - i)) P)) N,
      ap (λ (z : ℕ). z % (n * 2 ^ i)) (raise m j i (le_of_lt (g tt))) ∙ mod-scale (m * 2 ^ (j - i)) n (2 ^ i) P (pow_pos i),
    )

-- ---- the remainder

-- over the denominator w * v, m * u / w is m * z units of 1 / l
counted : (m u v w l z : ℕ) → u * l ≡ z * w → m * u * v * l ≡ m * z * (w * v)
counted m u v w l z h = mul_right_comm (m * u) v l ∙ ap (λ (p : ℕ). p * v) (mul_assoc m u l ∙ ap (λ (p : ℕ). m * p) h ∙ sym (mul_assoc m z w)) ∙ mul_assoc (m * z) w v

-- over one denominator, and in units of the smallest double
module _ {m : ℕ} {e : ℤ} {n : ℕ} {d : ℤ} (X : Double m e) (Y : Double n d) (N : 0 < n) where
  pub rem-units : m * up e * down d % (n * up d * down e) * 2 ^ 1074 ≡ m * 2 ^ X.shift % (n * 2 ^ Y.shift) * (down e * down d)
  rem-units =
      let l = 2 ^ 1074 in
      let a = m * up e * down d in
      let b = n * up d * down e in
      let c = down e * down d in
      let x = m * 2 ^ X.shift in
      let y = n * 2 ^ Y.shift in
      let A : a * l ≡ x * c = counted m (up e) (down d) (down e) l (2 ^ X.shift) X.scaled in
      let B : b * l ≡ y * c = counted n (up d) (down e) (down d) l (2 ^ Y.shift) Y.scaled ∙ ap (λ (z : ℕ). y * z) (mul_comm (down d) (down e)) in
      sym (mod-scale a b l (mul-pos (mul-pos N (up_pos d)) (down_pos e)) (pow_pos 1074))
      ∙ ap₂ (λ (z w : ℕ). z % w) A B
      ∙ mod-scale x y c (mul-pos N (pow_pos Y.shift)) (mul-pos (down_pos e) (down_pos d))

-- what `rem` rounds is a value of the format already
round-rem : (s : Bool) (m : ℕ) (e : ℤ) (t : Bool) (n : ℕ) (d : ℤ) → T (fits binary64 (fin s m e)) → T (fits binary64 (fin t n d)) → 0 < n
    → HasValue (round binary64 s (m * up e * down d % (n * up d * down e)) (down e * down d)) s (m * up e * down d % (n * up d * down e)) (down e * down d)
round-rem s m e t n d F G N =
    let X = double s m e F in
    let Y = double t n d G in
    let a = m * up e * down d in
    let b = n * up d * down e in
    let c = down e * down d in
    let (q, k, Q, r) = short 53 m X.shift n Y.shift X.short Y.short N in
    round_exact binary64 s (a % b) c q k (mul-pos (down_pos e) (down_pos d)) Q (subst (λ (z : ℕ). z < 2 ^ 2098) r (lt_of_le_of_lt (mod-le (m * 2 ^ X.shift) (n * 2 ^ Y.shift)) X.under))
    (rem-units X Y N ∙ ap (λ (z : ℕ). z * c) r)

pub rem-exact : (s : Bool) (m : ℕ) (e : ℤ) (t : Bool) (n : ℕ) (d : ℤ) → T (fits binary64 (fin s m e)) → T (fits binary64 (fin t n d)) → 0 < n
    → HasValue (rem binary64 (fin s m e) (fin t n d)) s (m * up e * down d % (n * up d * down e)) (down e * down d)
unfolding rem
rem-exact s m e t n d F G N =
    let r = m * up e * down d % (n * up d * down e) in
    let c = down e * down d in
    subst (λ (b : Bool). HasValue (cond b nan (round binary64 s r c)) s r c) (sym (ne_eqb n 0 (λ z. omega arith))) (round-rem s m e t n d F G N)

-- ---- `rem_euclid`

-- x = a / c in size, its digits X over the denominator D, times another denominator E
over : (X D E a c : ℕ) → X * c ≡ a * D → X * E * c ≡ a * (D * E)
over X D E a c h = mul_right_comm X E c ∙ ap (λ (w : ℕ). w * E) h ∙ mul_assoc a D E

-- a / c below b / c, by such digits
over-lt : (X D Y E a b c : ℕ) → 0 < D → 0 < E → X * c ≡ a * D → Y * c ≡ b * E → a < b → X * E < Y * D
over-lt X D Y E a b c P Q h k less =
    lt_of_mul-lt-mul_right c (rw (over X D E a c h, over Y E D b c k, mul_comm E D) (mul-lt-mul_of_pos_right less (mul-pos P Q)))

-- -a / c + b / c, rounded once, for a below b
sum-once : (f : Format) (x : Float) (n : ℕ) (d : ℤ) (a b c : ℕ) → 0 < c → HasValue x true a c → HasValue (fin false n d) false b c → a < b → add f x (fin false n d) ≡ round f false (b - a) c
unfolding add sum
sum-once f (fin true m e) n d a b c C (_, h) (_, k) less =
    let A = m * up e * down d in
    let B = n * up d * down e in
    let z = down e * down d in
    let p : A * c ≡ a * z = over (m * up e) (down e) (down d) a c h in
    let q : B * c ≡ b * z = over (n * up d) (down d) (down e) b c k ∙ ap (λ (w : ℕ). b * w) (mul_comm (down d) (down e)) in
    rw (lt-ltb A B (over-lt (m * up e) (down e) (n * up d) (down d) a b c (down_pos e) (down_pos d) h k less))
    (round_same f false (B - A) z (b - a) c (mul-pos (down_pos e) (down_pos d)) C (simp (sub-mul, p, q)))
sum-once f (fin false m e) n d a b c C (h, _) k less = absurd (false≢true h)
sum-once f nan n d a b c C x5 k less = elim x5 [ ]
sum-once f (inf _) n d a b c C x7 k less = elim x7 [ ]

-- ±a / c is below b / c
under : (x : Float) (s : Bool) (n : ℕ) (d : ℤ) (a b c : ℕ) → HasValue x s a c → HasValue (fin false n d) false b c → a < b → lt x (fin false n d) ≡ true
unfolding lt
under (fin true m e) s n d a b c h k less =
    lt-ltb 0 (m * up e * down d + n * up d * down e) (omega (arith, over-lt (m * up e) (down e) (n * up d) (down d) a b c (down_pos e) (down_pos d) h.1 k.1 less))
under (fin false m e) s n d a b c h k less =
    lt-ltb (m * up e * down d) (n * up d * down e) (over-lt (m * up e) (down e) (n * up d) (down d) a b c (down_pos e) (down_pos d) h.1 k.1 less)
under nan s n d a b c h k less = elim h [ ]
under (inf _) s n d a b c h k less = elim h [ ]

zero-size : (x a c d : ℕ) → 0 < c → x * c ≡ a * d → a ≡ 0 → x ≡ 0
zero-size x a c d C h z = grind arith

not-below : (x : Float) (s : Bool) (a c : ℕ) → 0 < c → HasValue x s a c → (s ≡ false) ⊎ (a ≡ 0) → lt x 0· ≡ false
unfolding lt of_bits
not-below (fin true m e) s a c C (h, k) (inl z) = absurd (true≢false (h ∙ z))
not-below (fin true m e) s a c C (h, k) (inr z) = le-ltb 0 (m * up e * 1 + 0 * 1 * down e) (omega (arith, zero-size (m * up e) a c (down e) C k z))
not-below (fin false m e) s a c C h o = le-ltb (m * up e * 1) (0 * 1 * down e) (omega arith)
not-below nan s a c C h o = elim h [ ]
not-below (inf _) s a c C h o = elim h [ ]

below : (x : Float) (a c : ℕ) → HasValue x true a c → 0 < a → lt x 0· ≡ true
unfolding lt of_bits
below (fin true m e) a c (_, h) A = lt-ltb 0 (m * up e * 1 + 0 * 1 * down e) (omega (arith, first_pos (m * up e) c (subst (λ (z : ℕ). 0 < z) (sym h) (mul-pos A (down_pos e)))))
below (fin false m e) a c (h, _) A = absurd (false≢true h)
below nan a c x3 A = elim x3 [ ]
below (inf _) a c x5 A = elim x5 [ ]

finite-of-le : (x y : Float) (a c : ℕ) → lt x 0· ≡ false → HasValue y false a c → T (le x y) → is_finite x ≡ true
unfolding is_finite lt le of_bits
finite-of-le nan y a c n h l = absurd l
finite-of-le (inf true) y a c n h l = absurd (true≢false n)
finite-of-le (inf false) (fin s m e) a c n h l = absurd l
finite-of-le (fin s m e) y a c n h l = refl
finite-of-le (inf false) nan a c n h l = elim h [ ]
finite-of-le (inf false) (inf _) a c n h l = elim h [ ]

pub finite-of-value : (x : Float) (s : Bool) (a c : ℕ) → HasValue x s a c → is_finite x ≡ true
unfolding is_finite
finite-of-value (fin t m e) s a c h = refl
finite-of-value nan s a c h = elim h [ ]
finite-of-value (inf _) s a c h = elim h [ ]

-- what is not larger than a double doesn't round to more
rounds-below : (t : Bool) (n : ℕ) (d : ℤ) (a c : ℕ) → T (fits binary64 (fin t n d)) → 0 < c → a * down d ≤ n * up d * c → T (le (round binary64 false a c) (fin false n d))
rounds-below t n d a c G C h =
    let D = double t n d G in
    let y = round binary64 false (n * up d) (down d) in
    let own : HasValue y false (n * up d) (down d) =
    round_exact binary64 false (n * up d) (down d) n D.shift (down_pos d) D.short D.under (units-counted D) in
    let l = le_of_values y (fin false n d) (n * up d) (down d) (n * up d) (down d) (down_pos d) (down_pos d) own (refl, refl) (le_refl _) in
    subst T (sym (Order.le_trans (round binary64 false a c) y (fin false n d) (is_true _ (round_mono binary64 a c (n * up d) (down d) C (down_pos d) h)) (is_true _ l))) tt

-- where the remainder r of an x with the sign s is the answer, and where y's size is added to it
keeps-or-moves : (s : Bool) (r : ℕ) → ((s ≡ false) ⊎ (r ≡ 0)) ⊎ ((s ≡ true) × (0 < r))
keeps-or-moves false r = inl (inl refl)
keeps-or-moves true r = elim (eq-zero-or-pos r) [ inl z ↦ inl (inr z) | inr p ↦ inr (refl, p) ]

-- What `rem_euclid` answers for finite x and y, y not 0. Over one denominator c, x has the sign s and the size a, and y the size b.
-- So a / b is the whole quotient of the sizes, and a % b over c is the remainder, below the size of y.
pub record RemEuclidExact (x y : Float) (s : Bool) (a b c : ℕ) : Type 0 where
  pub dividend : HasValue x s a c
  pub divisor : HasValue (abs y) false b c
  pub divided : a / b * b + a % b ≡ a
  pub smaller : a % b < b
  -- x % y is the remainder with x's sign: nothing is rounded
  pub remainder : HasValue (rem binary64 x y) s (a % b) c
  -- it is the answer where x is not negative, and where it is 0, a zero with x's sign
  pub kept : (s ≡ false) ⊎ (a % b ≡ 0) → rem_euclid x y ≡ rem binary64 x y
  -- and else y's size is added to it: the one rounding, of b - a % b over c
  pub moved : s ≡ true → 0 < a % b → (rem_euclid x y ≡ rem binary64 x y ⊕ abs y) × (rem_euclid x y ≡ round binary64 false (b - a % b) c)
  -- the answer is a number that is not below 0
  pub finite : is_finite (rem_euclid x y) ≡ true
  pub not_negative : lt (rem_euclid x y) 0· ≡ false
  -- and it is at most y's size: below it where nothing is rounded, while b - a % b over c may round up to it
  pub below-y : (s ≡ false) ⊎ (a % b ≡ 0) → lt (rem_euclid x y) (abs y) ≡ true
  pub most : le (rem_euclid x y) (abs y) ≡ true

pub rem-euclid-exact : (s : Bool) (m : ℕ) (e : ℤ) (t : Bool) (n : ℕ) (d : ℤ) → T (fits binary64 (fin s m e)) → T (fits binary64 (fin t n d)) → 0 < n
    → RemEuclidExact (fin s m e) (fin t n d) s (m * up e * down d) (n * up d * down e) (down e * down d)
unfolding rem_euclid abs
rem-euclid-exact s m e t n d F G N =
    let a = m * up e * down d in
    let b = n * up d * down e in
    let c = down e * down d in
    let r = rem binary64 (fin s m e) (fin t n d) in
    let answer = rem_euclid (fin s m e) (fin t n d) in
    let C : 0 < c = mul-pos (down_pos e) (down_pos d) in
    let less : a % b < b = mod-lt a (mul-pos (mul-pos N (up_pos d)) (down_pos e)) in
    let y-is : HasValue (fin false n d) false b c = (refl, sym (mul_assoc (n * up d) (down e) (down d))) in
    let r-is : HasValue r s (a % b) c = rem-exact s m e t n d F G N in
    let kept : (s ≡ false) ⊎ (a % b ≡ 0) → answer ≡ r = λ o. rw (not-below r s (a % b) c C r-is o) in
    let moved : s ≡ true → 0 < a % b → (answer ≡ r ⊕ fin false n d) × (answer ≡ round binary64 false (b - a % b) c) = λ o p.
    let v : HasValue r true (a % b) c = subst (λ (z : Bool). HasValue r z (a % b) c) o r-is in
    let sum : answer ≡ r ⊕ fin false n d = rw (below r (a % b) c v p) in
    (sum, sum ∙ sum-once binary64 r n d (a % b) b c C v y-is less) in
    let below-y : (s ≡ false) ⊎ (a % b ≡ 0) → lt answer (fin false n d) ≡ true = λ o. rw (kept o) (under r s n d (a % b) b c r-is y-is less) in
    let rounded : T (le (round binary64 false (b - a % b) c) (fin false n d)) =
    rounds-below t n d (b - a % b) c G C (le_trans (mul-le-mul_right (down d) (sub-le b (a % b))) (le_of_eq (mul_assoc (n * up d) (down e) (down d)))) in
    record {
      dividend = (refl, sym (mul_assoc (m * up e) (down e) (down d)) ∙ mul_right_comm (m * up e) (down e) (down d));
      divisor = y-is;
      divided = div-add-mod' a b;
      smaller = less;
      remainder = r-is;
      kept = kept;
      moved = moved;
      finite = elim (keeps-or-moves s (a % b)) [ inl o ↦ rw (kept o) (finite-of-value r s (a % b) c r-is) | inr h ↦ rw (moved h.0 h.1).1 (finite-of-le _ (fin false n d) b c (nonneg-not-below (round-nonneg binary64 (b - a % b) c)) y-is rounded) ];
      not_negative = elim (keeps-or-moves s (a % b)) [ inl o ↦ rw (kept o) (not-below r s (a % b) c C r-is o) | inr h ↦ rw (moved h.0 h.1).1 (nonneg-not-below (round-nonneg binary64 (b - a % b) c)) ];
      below-y = below-y;
      most = elim (keeps-or-moves s (a % b)) [ inl o ↦ Order.lt→le answer (fin false n d) (below-y o) | inr h ↦ rw (moved h.0 h.1).1 (is_true _ rounded) ];
    }

by-nan : (x : Float) → rem_euclid x nan ≡ nan
unfolding rem_euclid rem lt
by-nan nan = refl
by-nan (inf s) = refl
by-nan (fin s m e) = refl

by_zero : (x : Float) (t : Bool) (d : ℤ) → rem_euclid x (fin t 0 d) ≡ nan
unfolding rem_euclid rem lt
by_zero nan t d = refl
by_zero (inf s) t d = refl
by_zero (fin s m e) t d = refl

-- a NaN or an infinity on either side, and a divisor that is 0
pub record RemEuclidSpecial : Type 0 where
  pub of_nan : (y : Float) → rem_euclid nan y ≡ nan
  pub of-infinity : (s : Bool) (y : Float) → rem_euclid (inf s) y ≡ nan
  pub by-nan : (x : Float) → rem_euclid x nan ≡ nan
  pub by_zero : (x : Float) (t : Bool) (d : ℤ) → rem_euclid x (fin t 0 d) ≡ nan
  pub by-infinity : (s : Bool) (m : ℕ) (e : ℤ) (t : Bool) → rem_euclid (fin s m e) (inf t) ≡ cond (lt (fin s m e) 0·) (inf false) (fin s m e)

pub rem-euclid-special : RemEuclidSpecial
unfolding rem_euclid abs rem add lt
rem-euclid-special = record { of_nan = λ y. refl; of-infinity = λ s y. refl; by-nan = by-nan; by_zero = by_zero; by-infinity = λ s m e t. refl }

-- the answer can be y's size: -2 ^ -1074 by 1 is 1
pub rem-euclid-reaches : rem_euclid (of_bits binary64 0x8000_0000_0000_0001) 1· ≡ 1·
unfolding compute
rem-euclid-reaches = refl
