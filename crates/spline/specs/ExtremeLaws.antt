-- What one pass tells of weights: they are sound where each is above 0 and the largest is finite, and none vanishes where the smallest doesn't. Assumes nothing.
use Rattle.std.specs.Prelude.{◌≡◌, refl, Bool, true, false, not, cond, ◌&&◌, ◌||◌, ◌<◌, length, Float}
use Rattle.std.proofs.Math.Path.{sym, ap}
use Rattle.std.proofs.Common.{◌∙◌, arith}
use Rattle.std.proofs.Math.Bool.{and-true, and-false, and_assoc, or_assoc, or_comm, or-false}
use Rattle.std.proofs.lemmas.Bool.{false≢true}
use mathlib.Core.List.{List, [], ◌∷◌}
use Rattle.std.specs.Float.{nan, inf, fin}
use Rattle.std.specs.Float.Ieee.{lt, le, eq, is_nan, of_bits}
use Rattle.float64.specs.Operators.{◌⊘◌, 0·}
use Rattle.float64.specs.Functions.{is_finite, lesser, max}
use Rattle.float64.specs.Order.{le_not_lt, lt→le, eq→le, le_trans, le_antisym, lt-le-trans}
use Rattle.float64.specs.Nonneg.{Nonneg, infinite, finite, zero-nonneg, nonneg-le}
use Rattle.float64.specs.Magnitude.{Positive, positive, is_positive, quotient-nonneg, quotient-mono}
use Rattle.spline.specs.Weights.{sound, largest, vanishing}
use Rattle.spline.specs.WeightLaws.{sound-each, zero-finite, weight-at, largest-bounds}
use Rattle.spline.specs.Each.{first-and-rest}

unfoldable pub all_above : List Float → Bool
all_above [] = true
all_above (w ∷ ws) = lt 0· w && all_above ws

-- the smallest of m and the weights
unfoldable pub smallest : Float → List Float → Float
smallest m [] = m
smallest m (w ∷ ws) = smallest (lesser m w) ws

-- whether all weights are above 0, and then the smallest and the largest of them
pub record Told (ws : List Float) (above : Bool) (least most : Float) : Type 0 where
  pub is-above : above ≡ all_above ws
  pub is-least : above ≡ true → least ≡ smallest (inf false) ws
  pub is-most : above ≡ true → most ≡ largest 0· ws

-- ---- whether they are sound

pub above-nonneg : (w : Float) → lt 0· w ≡ true → Nonneg w
unfolding lt of_bits
above-nonneg nan h = absurd (false≢true h)
above-nonneg (inf true) h = absurd (false≢true h)
above-nonneg (inf false) h = infinite
above-nonneg (fin true m e) h = absurd (false≢true h)
above-nonneg (fin false m e) h = finite m e

max-finite : {m w : Float} → Nonneg m → Nonneg w → Nonneg (max m w) × (is_finite (max m w) ≡ (is_finite m && is_finite w))
unfolding max is_finite is_nan lt
max-finite infinite infinite = (infinite, refl)
max-finite infinite (finite n d) = (infinite, refl)
max-finite (finite m e) infinite = (infinite, refl)
max-finite (finite m e) (finite n d) = by (lt (fin false m e) (fin false n d))
  where
    by : (t : Bool) → Nonneg (cond t (fin false n d) (fin false m e)) × (is_finite (cond t (fin false n d) (fin false m e)) ≡ true)
    by true = (finite n d, refl)
    by false = (finite m e, refl)

sound-from : {m : Float} → Nonneg m → (ws : List Float) → (is_finite m && sound ws) ≡ (all_above ws && is_finite (largest m ws))
unfolding sound all_above largest
sound-from {m = m} p [] = and-true (is_finite m)
sound-from {m = m} p (w ∷ ws) = by (lt 0· w) refl (λ q. sound-from {m = max m w} q ws)
  where
    by : (t : Bool) → lt 0· w ≡ t → (Nonneg (max m w) → (is_finite (max m w) && sound ws) ≡ (all_above ws && is_finite (largest (max m w) ws)))
        → (is_finite m && (is_finite w && lt 0· w && sound ws)) ≡ (lt 0· w && all_above ws && is_finite (largest (max m w) ws))
    by false h rest = simp (h, and-false)
    by true h rest =
        let q = max-finite p (above-nonneg w h) in
        simp (h, and-true) (sym (and_assoc (is_finite m) (is_finite w) (sound ws)) ∙ ap (λ (t : Bool). t && sound ws) (sym q.1) ∙ rest q.0)

pub sound-by-most : (ws : List Float) → sound ws ≡ (all_above ws && is_finite (largest 0· ws))
sound-by-most ws = ap (λ (t : Bool). t && sound ws) (sym zero-finite) ∙ sound-from zero-nonneg ws

-- ---- whether one of them vanishes

positive→number : {x : Float} → Positive x → is_nan x ≡ false
unfolding is_nan
positive→number (positive m e h) = refl

one_of : (p q : Bool) → (p ≡ true → q ≡ true) → q ≡ (p || q)
one_of true q f = f refl
one_of false q f = refl

-- quotients by m, of numbers above 0
module _ {m : Float} (M : Positive m) where
  -- where a number vanishes, so does a smaller one
  vanishes-below : {x y : Float} → Positive x → Positive y → le x y ≡ true → eq (y ⊘ m) 0· ≡ true → eq (x ⊘ m) 0· ≡ true
  vanishes-below {x} {y} p q l h = le_antisym (x ⊘ m) 0· (le_trans (x ⊘ m) (y ⊘ m) 0· (quotient-mono p q M l) (eq→le (y ⊘ m) 0· h)) (nonneg-le (quotient-nonneg p M))

  lesser-vanishes : {l w : Float} → Positive l → Positive w → Positive (lesser l w) × (eq (lesser l w ⊘ m) 0· ≡ (eq (l ⊘ m) 0· || eq (w ⊘ m) 0·))
  lesser-vanishes {l} {w} p q = by (lt w l) refl
    where
      by : (t : Bool) → lt w l ≡ t → Positive (cond t w l) × (eq (cond t w l ⊘ m) 0· ≡ (eq (l ⊘ m) 0· || eq (w ⊘ m) 0·))
      by true h = (q, one_of _ _ (vanishes-below q p (lt→le w l h)))
      by false h = (p, one_of _ _ (vanishes-below p q (le_not_lt l w (positive→number p) (positive→number q) ∙ ap not h)) ∙ or_comm (eq (w ⊘ m) 0·) (eq (l ⊘ m) 0·))

  smallest-vanishes : {l : Float} → Positive l → (ws : List Float) → sound ws ≡ true → (eq (l ⊘ m) 0· || vanishing m ws) ≡ eq (smallest l ws ⊘ m) 0·
  unfolding vanishing smallest
  smallest-vanishes {l = l} p [] s = or-false (eq (l ⊘ m) 0·)
  smallest-vanishes {l = l} p (w ∷ ws) s =
      let h = weight-at (w ∷ ws) 0 s (omega arith) in
      let q = lesser-vanishes p (is_positive w h.0 h.1) in
      sym (or_assoc (eq (l ⊘ m) 0·) (eq (w ⊘ m) 0·) (vanishing m ws)) ∙ ap (λ (t : Bool). t || vanishing m ws) (sym q.1) ∙ smallest-vanishes {l = lesser l w} q.0 ws (first-and-rest sound-each w ws s).1

-- the first of finite weights is held against an infinity
first-least : (w : Float) (ws : List Float) → is_finite w ≡ true → smallest (inf false) (w ∷ ws) ≡ smallest w ws
unfolding smallest lt is_finite
first-least nan ws f = absurd (false≢true f)
first-least (inf s) ws f = absurd (false≢true f)
first-least (fin s m e) ws f = refl

pub vanishing-by-least : (ws : List Float) → 0 < length ws → sound ws ≡ true → vanishing (largest 0· ws) ws ≡ eq (smallest (inf false) ws ⊘ largest 0· ws) 0·
unfolding vanishing
vanishing-by-least [] n s = absurd (omega arith)
vanishing-by-least (w ∷ ws) n s =
    let m = largest 0· (w ∷ ws) in
    let h = weight-at (w ∷ ws) 0 s n in
    let b = largest-bounds 0· (w ∷ ws) zero-finite s in
    let M = is_positive m b.finite (lt-le-trans 0· w m h.1 (b.each 0 n)) in
    rw (first-least w ws h.0) (smallest-vanishes M (is_positive w h.0 h.1) ws (first-and-rest sound-each w ws s).1)
