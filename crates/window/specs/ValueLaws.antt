-- The grid's values on an axis lie in the window that they are made for, where they are finite (`value-in-window`), so that a clamp to it keeps them (`clamp-keeps`).
-- Nothing is said of a value that is not finite: the sevenfold of a span can overflow. Assumes nothing.
use Rattle.std.specs.Prelude.{◌≡◌, Bool, true, false, cond, T, length, Float}
use Rattle.std.proofs.Common.{◌∙◌, arith}
use Rattle.std.proofs.Math.Logic.{inl, inr}
use mathlib.Core.List.Memᴰ
use mathlib.Core.List.{List, [], ◌∷◌, ◌++◌, Memᴰ}
use Prim.Native.Nat.{ℕ, zero, suc, ◌+◌, ◌-◌, ◌≤◌}
use Rattle.std.specs.Float.Ieee.{nan, lt, le, eq, fits}
use Rattle.std.specs.Float.{binary64}
use Rattle.float64.specs.Functions.{is_finite, clamp}
use Rattle.float64.specs.Order.{le_trans, le_refl, le→number, lt→le, le→not-lt, eq→le, eq-sym, le-eq}
use Rattle.between.specs.BetweenLaws.{eighth-between}
use Rattle.spline.specs.Knots.{Axis, low, high, refusal_of_knots}
use Rattle.spline.specs.KnotLaws.{accepted}
use Rattle.domain.specs.Doubles.{Doubles}
use Rattle.grid.specs.Axis.{filter, every, first_equal, Within, start_of, end_of, inner_of, stride, thinned, eighths, between, values_of}
use Rattle.grid.specs.AxisLaws.{is_inner, fresh, fresh-nan, Chain, start-equal, end-equal, breaks-rise, thinned-kept}
use Rattle.grid.specs.AxisLaws.Chain.{next}

-- a list of doubles
data Fit : List Float → Type 0 where
  none : Fit []
  more : {x : Float} {xs : List Float} → T (fits binary64 x) → Fit xs → Fit (x ∷ xs)

fit : (xs : List Float) → Doubles xs → Fit xs
fit [] d = none
fit (x ∷ xs) d = more (d 0 (omega arith)) (fit xs (λ i h. d (suc i) (omega arith)))

fit-filter : (f : Float → Bool) (xs : List Float) → Fit xs → Fit (filter f xs)
unfolding filter
fit-filter f [] none = none
fit-filter f (x ∷ xs) (more h c) = by (f x) (fit-filter f xs c)
  where
    by : (t : Bool) → Fit (filter f xs) → Fit (cond t (x ∷ filter f xs) (filter f xs))
    by true p = more h p
    by false p = p

fit-fresh : (z : Float) (xs : List Float) → Fit xs → Fit (fresh z xs)
unfolding fresh
fit-fresh z [] none = none
fit-fresh z (x ∷ xs) (more h c) = by (eq z x) (fit-fresh z xs c) (fit-fresh x xs c)
  where
    by : (t : Bool) → Fit (fresh z xs) → Fit (fresh x xs) → Fit (cond t (fresh z xs) (x ∷ fresh x xs))
    by true p q = p
    by false p q = more h q

pub either-fits : (t : Bool) (x y : Float) → T (fits binary64 x) → T (fits binary64 y) → T (fits binary64 (cond t x y))
either-fits true x y f g = f
either-fits false x y f g = g

first_fits : (x : Float) (ks : List Float) → T (fits binary64 x) → Fit ks → T (fits binary64 (first_equal x ks))
unfolding first_equal
first_fits x [] f none = f
first_fits x (k ∷ ks) f (more h c) = either-fits (eq k x) k (first_equal x ks) h (first_fits x ks f c)

-- ---- between two breaks
module _ (x y : Float) (F : T (fits binary64 x)) (G : T (fits binary64 y)) (order : le x y ≡ true) where
  eighths-inside : (k j : ℕ) → k + j ≤ 8 → (v : Float) → Memᴰ v (eighths k j x y) → is_finite v ≡ true → (le x v ≡ true) × (le v y ≡ true)
  unfolding eighths
  eighths-inside zero j h v m f = elim m [ ]
  eighths-inside (suc k) j h v (Memᴰ.head e) f = rw e (eighth-between x y j F G order (omega arith) (rw e at f))
  eighths-inside (suc k) j h v (Memᴰ.tail m) f = eighths-inside k (suc j) (omega arith) v m f

-- ---- doubles that climb from x up to e at most
data Climbs (e : Float) : Float → List Float → Type 0 where
  top : {x : Float} → le x e ≡ true → Climbs e x []
  step : {x y : Float} {ys : List Float} → le x y ≡ true → T (fits binary64 y) → Climbs e y ys → Climbs e x (y ∷ ys)

module _ {e : Float} where
  climbs-le : {x : Float} {xs : List Float} → Climbs e x xs → le x e ≡ true
  climbs-le (top h) = h
  climbs-le (step h f c) = le_trans _ _ _ h (climbs-le c)

  lower : {x y : Float} {ys : List Float} → le x y ≡ true → Climbs e y ys → Climbs e x ys
  lower h (top k) = top (le_trans _ _ _ h k)
  lower h (step k f c) = step (le_trans _ _ _ h k) f c

  closed : {x : Float} {xs : List Float} → T (fits binary64 e) → Climbs e x xs → Climbs e x (xs ++ (e ∷ []))
  closed f (top h) = step h f (top (le_refl _ (le→number _ _ h).1))
  closed f (step h g c) = step h g (closed f c)

  chain-climbs : (x : Float) (ys : List Float) → Chain lt x (ys ++ (e ∷ [])) → Fit ys → Climbs e x ys
  chain-climbs x [] (next h c) none = top (lt→le x e h)
  chain-climbs x (y ∷ ys) (next h c) (more f d) = step (lt→le x y h) f (chain-climbs y ys c d)

  every-climbs : (s k : ℕ) (x : Float) (ys : List Float) → Climbs e x ys → Climbs e x (every s k ys)
  unfolding every
  every-climbs s k x [] c = c
  every-climbs s zero x (y ∷ ys) (step h f c) = step h f (every-climbs s s y ys c)
  every-climbs s (suc k) x (y ∷ ys) (step h f c) = every-climbs s k x ys (lower h c)

  -- an eighth lies between two neighbours
  between-inside : {x : Float} {xs : List Float} → Climbs e x xs → (v : Float) → Memᴰ v (between xs) → is_finite v ≡ true → (le x v ≡ true) × (le v e ≡ true)
  unfolding between
  between-inside (top h) v m f = elim m [ ]
  between-inside (step h g (top k)) v m f = elim m [ ]
  between-inside (step {y = y} h F (step {y = z} l G c)) v m f = elim (Memᴰ.append_cases (eighths 8 0 y z) m) [
    | inl n ↦ let (a, b) = eighths-inside y z F G l 8 0 (omega arith) v n f in (le_trans _ _ _ h a, le_trans _ _ _ b (climbs-le c))
    | inr n ↦ let (a, b) = between-inside (step l G c) v n f in (le_trans _ _ _ h a, b)
  ]

-- ---- the laws
module _ (a : Axis) (ok : refusal_of_knots a ≡ 0) (lo hi : Float) (w : Within a lo hi) (d : Doubles a.knots) (F : T (fits binary64 lo)) (G : T (fits binary64 hi)) where
  start_fits : T (fits binary64 (start_of a lo))
  unfolding start_of
  start_fits = either-fits (eq lo (low a)) (first_equal lo a.knots) lo (first_fits lo a.knots F (fit a.knots d)) F

  end_fits : T (fits binary64 (end_of a hi))
  unfolding end_of
  end_fits = let A = accepted a ok in either-fits (eq hi (high a)) (high a) hi (d a.controls (omega arith)) G

  inner-fits : Fit (inner_of a lo hi)
  unfolding inner_of
  inner-fits = rw (fresh-nan (filter (is_inner lo hi) a.knots)) (fit-fresh nan (filter (is_inner lo hi) a.knots) (fit-filter (is_inner lo hi) a.knots (fit a.knots d)))

  thinned-climbs : Climbs (end_of a hi) lo (thinned a lo hi)
  thinned-climbs =
      let x = start_of a lo in
      let before : le lo x ≡ true = eq→le lo x (eq-sym lo x ∙ start-equal a lo hi w.0) in
      let s = stride (length (inner_of a lo hi) + 2) - 1 in
      rw (thinned-kept a ok lo hi w)
      (closed end_fits (every-climbs s 0 lo (x ∷ inner_of a lo hi) (step before start_fits (chain-climbs x (inner_of a lo hi) (breaks-rise a ok lo hi w) inner-fits))))

  pub value-in-window : (v : Float) → Memᴰ v (values_of a lo hi) → is_finite v ≡ true → (le lo v ≡ true) × (le v hi ≡ true)
  unfolding values_of
  value-in-window v m f =
      let after = end-equal a lo hi w.0 in
      elim (Memᴰ.append_cases (between (thinned a lo hi)) m) [
        | inl n ↦ let (l, u) = between-inside thinned-climbs v n f in (l, le-eq v (end_of a hi) hi u after)
        | inr n ↦ rw (Memᴰ.eq_of_singleton n) (climbs-le thinned-climbs, eq→le (end_of a hi) hi after)
      ]

  pub clamp-keeps : (v : Float) → Memᴰ v (values_of a lo hi) → is_finite v ≡ true → clamp v lo hi ≡ v
  unfolding clamp
  clamp-keeps v m f =
      let (l, u) = value-in-window v m f in
      rw (le→not-lt lo v l, le→not-lt v hi u)
