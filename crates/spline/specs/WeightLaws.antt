-- What accepted weights are, both ways. Assumes nothing.
use Rattle.std.specs.Prelude.{◌≡◌, refl, Bool, true, false, not, cond, ◌&&◌, ◌||◌, ◌⊎◌, List, [], ◌∷◌, ℕ, zero, suc, ◌<◌, length, get_or, Float}
use Rattle.std.proofs.Common.{sym, ap, ◌∙◌, true≢false, inl, inr, ⊎_elim, le_antisymm}
use Rattle.std.proofs.Math.Bool.{and-eq-true_iff}
use Rattle.std.proofs.lemmas.Bool.{false≢true, not-true, not-false}
use native.Mathlib.Omega.{arith, by_contra}
use Rattle.std.specs.Float.{nan}
use Rattle.std.specs.Float.Ieee.{lt, le, eq, of_bits}
use Rattle.float64.specs.Operators.{◌⊘◌, 0·}
use Rattle.float64.specs.Functions.{is_finite, max}
use Rattle.float64.specs.Order.{neither, finite→number, max-larger, lt_not_le, le_not_lt, lt→le, lt→not-le, lt_irrefl, le_refl, le_trans, lt_trans, lt-le-trans, le_lt_trans}
use Rattle.spline.specs.declared.weights.Weighed.TheVariants.{Scale, Refused}
use Rattle.spline.specs.Weights.{sound, largest, vanishing, is_empty, weighed}
use Rattle.spline.specs.Each.{Each, both, first-and-rest, each_at, all_of_each}

-- ---- the tests weight by weight
abbrev pub sound_one : Float → List Float → Bool
sound_one w ws = is_finite w && lt 0· w

pub sound-each : Each sound_one sound
unfolding sound
sound-each = record { none = refl; more = λ w ws. refl }

abbrev kept_one : Float → Float → List Float → Bool
kept_one m w ws = not (eq (w ⊘ m) 0·)

not-either : (p q : Bool) → not (p || q) ≡ (not p && not q)
not-either true q = refl
not-either false q = refl

-- none vanishes
kept-each : (m : Float) → Each (kept_one m) (λ ws. not (vanishing m ws))
unfolding vanishing
kept-each m = record { none = refl; more = λ w ws. not-either (eq (w ⊘ m) 0·) (vanishing m ws) }

-- ---- the largest
pub zero-finite : is_finite 0· ≡ true
unfolding is_finite of_bits
zero-finite = refl

pub above_zero : (w : Float) → is_finite w ≡ true → lt 0· w ≡ not (le w 0·)
above_zero w h = lt_not_le 0· w (finite→number 0· zero-finite) (finite→number w h)

-- of finite numbers: it is finite, and at least each of the two
module _ (m w : Float) (f : is_finite m ≡ true) (g : is_finite w ≡ true) where
  pub max_bounds : (is_finite (max m w) ≡ true) × (le m (max m w) ≡ true) × (le w (max m w) ≡ true)
  max_bounds = rw (max-larger m w (finite→number m f)) (by (lt m w) refl)
    where
      by : (t : Bool) → lt m w ≡ t → (is_finite (cond t w m) ≡ true) × (le m (cond t w m) ≡ true) × (le w (cond t w m) ≡ true)
      by true h = (g, lt→le m w h, le_refl w (finite→number w g))
      by false h = (f, le_refl m (finite→number m f), le_not_lt w m (finite→number w g) (finite→number m f) ∙ ap not h)

pub weight-at : (ws : List Float) (i : ℕ) → sound ws ≡ true → i < length ws → (is_finite (get_or ws i nan) ≡ true) × (lt 0· (get_or ws i nan) ≡ true)
weight-at ws i s h = both (is_finite (get_or ws i nan)) (lt 0· (get_or ws i nan)) (each_at sound-each ws i s h)

-- no weight is above m
abbrev pub NoneAbove : List Float → Float → Type 0
NoneAbove ws m = (i : ℕ) → i < length ws → le (get_or ws i nan) m ≡ true

-- n is finite, and at least m and each weight
pub record Bounds (m : Float) (ws : List Float) (n : Float) : Type 0 where
  pub finite : is_finite n ≡ true
  pub first : le m n ≡ true
  pub each : NoneAbove ws n

bounds-more : (m w : Float) (ws : List Float) (n : Float) → is_finite m ≡ true → is_finite w ≡ true → Bounds (max m w) ws n → Bounds m (w ∷ ws) n
bounds-more m w ws n f g b = record { finite = b.finite; first = le_trans m (max m w) n (max_bounds m w f g).1 b.first; each = each }
  where
    each : (i : ℕ) → i < length (w ∷ ws) → le (get_or (w ∷ ws) i nan) n ≡ true
    each zero h = le_trans w (max m w) n (max_bounds m w f g).2 b.first
    each (suc i) h = b.each i (omega arith)

pub largest-bounds : (m : Float) (ws : List Float) → is_finite m ≡ true → sound ws ≡ true → Bounds m ws (largest m ws)
unfolding largest
largest-bounds m [] f s = record { finite = f; first = le_refl m (finite→number m f); each = λ i h. absurd (omega arith) }
largest-bounds m (w ∷ ws) f s =
    let g = (weight-at (w ∷ ws) 0 s (omega arith)).0 in
    bounds-more m w ws _ f g (largest-bounds (max m w) ws (max_bounds m w f g).0 (first-and-rest sound-each w ws s).1)

-- ---- where the largest stands
-- n stands among the weights, and those before it are below it
pub record Stands (ws : List Float) (n : Float) : Type 0 where
  pub place : ℕ
  pub inside : place < length ws
  pub there : get_or ws place nan ≡ n
  pub below : (i : ℕ) → i < place → lt (get_or ws i nan) n ≡ true

stands-first : {w n : Float} {ws : List Float} → w ≡ n → Stands (w ∷ ws) n
stands-first e = record { place = 0; inside = omega arith; there = e; below = λ i h. absurd (omega arith) }

stands-later : {w n : Float} {ws : List Float} → lt w n ≡ true → Stands ws n → Stands (w ∷ ws) n
stands-later {w} {n} {ws} l s = record { place = suc s.place; inside = omega arith; there = s.there; below = below }
  where
    below : (i : ℕ) → i < suc s.place → lt (get_or (w ∷ ws) i nan) n ≡ true
    below zero h = l
    below (suc i) h = s.below i (omega arith)

-- n is m, or is above it and stands among the weights
abbrev Found : Float → List Float → Float → Type 0
Found m ws n = (n ≡ m) ⊎ ((lt m n ≡ true) × Stands ws n)

largest-found : (m : Float) (ws : List Float) → is_finite m ≡ true → sound ws ≡ true → Found m ws (largest m ws)
unfolding largest
largest-found m [] f s = inl refl
largest-found m (w ∷ ws) f s =
    let g = (weight-at (w ∷ ws) 0 s (omega arith)).0 in
    rw (max-larger m w (finite→number m f)) (by (lt m w) refl g (λ k h. largest-found k ws h (first-and-rest sound-each w ws s).1))
  where
    by : (t : Bool) → lt m w ≡ t → is_finite w ≡ true → ((k : Float) → is_finite k ≡ true → Found k ws (largest k ws)) → Found m (w ∷ ws) (largest (cond t w m) ws)
    by true h g rest = inr (⊎_elim (λ e. (rw e h, stands-first (sym e))) (λ p. (lt_trans m w _ h p.0, stands-later p.0 p.1)) (rest w g))
    by false h g rest =
        let l : le w m ≡ true = le_not_lt w m (finite→number w g) (finite→number m f) ∙ ap not h in
        ⊎_elim inl (λ p. inr (p.0, stands-later (le_lt_trans w m _ l p.0) p.1)) (rest m f)

-- the largest of some weights above 0 stands among them
one-stands : (ws : List Float) → sound ws ≡ true → 0 < length ws → Stands ws (largest 0· ws)
one-stands ws s l =
    let h = lt-le-trans 0· _ _ (weight-at ws 0 s l).1 ((largest-bounds 0· ws zero-finite s).each 0 l) in
    ⊎_elim (λ e. absurd (false≢true (sym (lt_irrefl 0·) ∙ rw e at h))) (λ p. p.1) (largest-found 0· ws zero-finite s)

not_earlier : {ws : List Float} {m n : Float} (s : Stands ws m) (t : Stands ws n) → NoneAbove ws m → s.place < t.place → ⊥
not_earlier {ws} {m} {n} s t a h =
    true≢false (sym (rw t.there at (a t.place t.inside)) ∙ lt→not-le m n (rw s.there at (t.below s.place h)))

-- two that stand among the weights, and which none is above, are the same one
stands-once : {ws : List Float} {m n : Float} → Stands ws m → Stands ws n → NoneAbove ws m → NoneAbove ws n → m ≡ n
stands-once {ws} s t a b =
    let e : s.place ≡ t.place = le_antisymm (by_contra _ _ (not_earlier t s b)) (by_contra _ _ (not_earlier s t a)) in
    sym s.there ∙ ap (λ (i : ℕ). get_or ws i nan) e ∙ t.there

-- ---- weights that are accepted, with the largest, m
pub record AcceptedWeights (ws : List Float) (m : Float) : Type 0 where
  pub finite : (i : ℕ) → i < length ws → is_finite (get_or ws i nan) ≡ true
  pub above : (i : ℕ) → i < length ws → lt 0· (get_or ws i nan) ≡ true
  pub at_most : NoneAbove ws m
  pub stands : Stands ws m
  pub kept : (i : ℕ) → i < length ws → eq (get_or ws i nan ⊘ m) 0· ≡ false

-- what the answer `Scale` shows of a test
pub scale-of : (t : Bool) (n m : Float) → cond t Refused (Scale n) ≡ Scale m → (t ≡ false) × (n ≡ m)
scale-of true n m e = absurd (let z : ◌≡◌ {A = ℕ} 0 1 = cc in omega arith)
scale-of false n m e = (refl, cc)

some_of : (ws : List Float) → is_empty ws ≡ false → 0 < length ws
unfolding is_empty
some_of [] h = absurd (true≢false h)
some_of (w ∷ ws) h = omega arith

pub not-empty : (ws : List Float) → 0 < length ws → is_empty ws ≡ false
unfolding is_empty
not-empty [] h = absurd (omega arith)
not-empty (w ∷ ws) h = refl

-- what is accepted: there is a weight, each is finite, above 0 and not 0 after division by the largest, which is one of them
pub accepted-weights : (ws : List Float) (m : Float) → weighed ws ≡ Scale m → AcceptedWeights ws m
unfolding weighed
accepted-weights ws m h =
    let t = scale-of _ _ _ h in
    let u = neither _ _ t.0 in
    let v = neither _ _ u.0 in
    from m (sym t.1) (some_of ws v.0) (not-false (sound ws) v.1) u.1
  where
    from : (n : Float) → n ≡ largest 0· ws → 0 < length ws → sound ws ≡ true → vanishing (largest 0· ws) ws ≡ false → AcceptedWeights ws n
    from n e l s k = rw e record {
      finite = λ i h. (weight-at ws i s h).0;
      above = λ i h. (weight-at ws i s h).1;
      at_most = (largest-bounds 0· ws zero-finite s).each;
      stands = one-stands ws s l;
      kept = λ i h. not-true _ (each_at (kept-each (largest 0· ws)) ws i (ap not k) h);
    }

module _ {ws : List Float} {m : Float} (W : AcceptedWeights ws m) where
  pub scale-finite : is_finite m ≡ true
  scale-finite = rw W.stands.there at (W.finite W.stands.place W.stands.inside)

  pub scale-above : lt 0· m ≡ true
  scale-above = rw W.stands.there at (W.above W.stands.place W.stands.inside)

  all_sound : sound ws ≡ true
  all_sound = all_of_each sound-each ws (λ i h. (and-eq-true_iff _ _).1 (W.finite i h, W.above i h))

  is-largest : m ≡ largest 0· ws
  is-largest = stands-once W.stands (one-stands ws all_sound (omega arith)) W.at_most (largest-bounds 0· ws zero-finite all_sound).each

-- all of which is enough
pub accepted-weights-suffice : (ws : List Float) (m : Float) → AcceptedWeights ws m → weighed ws ≡ Scale m
unfolding weighed
accepted-weights-suffice ws m W =
    let k = all_of_each (kept-each m) ws (λ i h. ap not (W.kept i h)) in
    rw (← is-largest W) (simp (not-empty ws (omega arith), all_sound W, not-true (vanishing m ws) k))
