-- What holds of a surface that is accepted, and of a parameter brought into the domain. Assumes nothing.
use Rattle.std.specs.Prelude.{◌≡◌, refl, Bool, true, false, not, ◌&&◌, ◌||◌, List, [], ◌∷◌, ℕ, zero, suc, ◌+◌, ◌*◌, ◌≤◌, ◌<◌, eqb, length, drop, get_or, Float}
use Rattle.std.proofs.Common.{sym, ap, ◌∙◌, true≢false, arith, ltb-false, eqb-true, le-ltb, eq-eqb}
use Rattle.std.proofs.Math.Bool.{and-eq-true_iff}
use Rattle.std.specs.Float.{nan}
use Rattle.std.proofs.lemmas.Bool.{not-false}
use Rattle.float64.specs.Functions.{is_finite}
use Rattle.float64.specs.Order.{neither}
use Rattle.spline.specs.declared.weights.Weighed.{Weighed}
use Rattle.spline.specs.Weights.{sound, vanishing, is_empty, weighed, refusal_of}
use Rattle.spline.specs.WeightLaws.{scale-of}
use Rattle.spline.specs.Knots.{all_finite, refusal_of_knots}
use Rattle.spline.specs.Each.{Each, each_at, all_of_each}
use Rattle.surface.specs.declared.Checked.TheVariants as Check
use Rattle.domain.specs.declared.Shape.{Shape}
use Rattle.domain.specs.Intervals.{axis_of, domain_on}
use Rattle.domain.specs.Windows.{misfits}
use Rattle.surface.specs.Surface.{Surface, axis_u, axis_v, domain_of, total, or_else, when, too_large, miscounted, refusal_of_surface, refusal_of_axes, scale_of, judged, checked}

-- ---- the checks

pub finite-each : Each (λ x xs. is_finite x) all_finite
unfolding all_finite
finite-each = record { none = refl; more = λ x xs. refl }

module _ {one : Float → List Float → Bool} {all : List Float → Bool} (each : Each one all) where
  -- where not all pass there is one that does not
  pub some-fails : (xs : List Float) → all xs ≡ false → (i : ℕ) × (i < length xs) × (one (get_or xs i nan) (drop (suc i) xs) ≡ false)
  some-fails [] h = absurd (true≢false (sym each.none ∙ h))
  some-fails (x ∷ xs) h = by (one x xs) refl (sym (each.more x xs) ∙ h) (some-fails xs)
    where
      by : (b : Bool) → one x xs ≡ b → (b && all xs) ≡ false → (all xs ≡ false → (i : ℕ) × (i < length xs) × (one (get_or xs i nan) (drop (suc i) xs) ≡ false))
          → (i : ℕ) × (i < length (x ∷ xs)) × (one (get_or (x ∷ xs) i nan) (drop (suc i) (x ∷ xs)) ≡ false)
      by false e h r = (0, omega arith, e)
      by true e h r = let n = r h in (suc n.0, omega arith, n.2)

none_of : (m n : ℕ) → or_else m n ≡ 0 → (m ≡ 0) × (n ≡ 0)
unfolding or_else
none_of zero n h = (refl, h)
none_of (suc k) n h = absurd (omega arith)

not-when : (t : Bool) (n : ℕ) → when t (suc n) ≡ 0 → t ≡ false
not-when true n h = absurd (omega arith)
not-when false n h = refl

pub small : (s : Surface) → too_large s ≡ false → (total s ≤ 100000) × (length s.knots_u + length s.knots_v ≤ 100034)
unfolding too_large
small s h = let t = neither _ _ h in (ltb-false _ _ t.0, ltb-false _ _ t.1)

counted : (s : Surface) → miscounted s ≡ false → (length s.controls ≡ 3 * total s) × (length s.weights ≡ total s)
unfolding miscounted
counted s h =
    let t = (and-eq-true_iff (eqb (length s.controls) (3 * total s)) (eqb (length s.weights) (total s))).0 (not-false _ h) in
    (eqb-true _ _ t.0, eqb-true _ _ t.1)

pub scale-is : (s : Surface) (m : Float) → weighed s.weights ≡ Weighed.Scale m → m ≡ scale_of s
unfolding weighed
scale-is s m e =
    let ws = s.weights in
    sym (scale-of (is_empty ws || not (sound ws) || vanishing (scale_of s) ws) _ _ e).1

scale-known : (s : Surface) → refusal_of (weighed s.weights) ≡ 0 → weighed s.weights ≡ Weighed.Scale (scale_of s)
unfolding refusal_of
scale-known s h = by (weighed s.weights) refl h
  where
    by : (w : Weighed) → weighed s.weights ≡ w → refusal_of w ≡ 0 → weighed s.weights ≡ Weighed.Scale (scale_of s)
    by (Weighed.Scale m) e h = e ∙ ap Weighed.Scale (scale-is s m e)
    by Weighed.Refused e h = absurd (omega arith)

-- of its knots and its window
pub accepted-axes : (shape : Shape) (ku kv : List Float) → refusal_of_axes shape ku kv ≡ 0 → (refusal_of_knots (axis_of shape.u ku) ≡ 0) × (refusal_of_knots (axis_of shape.v kv) ≡ 0) × (misfits shape.window (domain_on shape ku kv) ≡ false)
accepted-axes shape ku kv h =
    let u = none_of _ _ h in
    let v = none_of _ _ u.1 in
    (u.0, v.0, not-when _ _ v.1)

-- a surface that is accepted
pub record AcceptedSurface (s : Surface) : Type 0 where
  pub total-most : total s ≤ 100000
  pub knots-most : length s.knots_u + length s.knots_v ≤ 100034
  pub controls : length s.controls ≡ 3 * total s
  pub weights : length s.weights ≡ total s
  pub finite : (i : ℕ) → i < length s.controls → is_finite (get_or s.controls i nan) ≡ true
  pub scale : weighed s.weights ≡ Weighed.Scale (scale_of s)
  pub knots-u : refusal_of_knots (axis_u s) ≡ 0
  pub knots-v : refusal_of_knots (axis_v s) ≡ 0
  pub window : misfits s.shape.window (domain_of s) ≡ false

pub accepted-surface : (s : Surface) → refusal_of_surface s ≡ 0 → AcceptedSurface s
unfolding refusal_of_surface
accepted-surface s h =
    let t1 = none_of _ _ h in
    let t2 = none_of _ _ t1.1 in
    let t3 = none_of _ _ t2.1 in
    let t4 = none_of _ _ t3.1 in
    let t5 = none_of _ _ t4.1 in
    let t6 = none_of _ _ t5.1 in
    let limits = small s (not-when _ _ t1.0) in
    let counts = counted s (not-when _ _ t2.0) in
    record {
      total-most = limits.0;
      knots-most = limits.1;
      controls = counts.0;
      weights = counts.1;
      finite = λ i l. each_at finite-each s.controls i (not-false _ (not-when _ _ t3.0)) l;
      scale = scale-known s t4.0;
      knots-u = t5.0;
      knots-v = t6.0;
      window = not-when _ _ t6.1;
    }

-- and a surface of which all that holds is accepted
pub surface-accepted : (s : Surface) → AcceptedSurface s → refusal_of_surface s ≡ 0
unfolding refusal_of_surface or_else too_large miscounted refusal_of
surface-accepted s a =
    simp (
      le-ltb _ _ a.total-most,
      le-ltb _ _ a.knots-most,
      eq-eqb _ _ a.controls,
      eq-eqb _ _ a.weights,
      all_of_each finite-each s.controls a.finite,
      a.scale,
      a.knots-u,
      a.knots-v,
      a.window,
    )

pub checked-scale : (s : Surface) (m : Float) → checked s ≡ Check.Scale m → (refusal_of_surface s ≡ 0) × (m ≡ scale_of s)
unfolding checked judged
checked-scale s m h = by (refusal_of_surface s) h
  where
    by : (n : ℕ) → judged (scale_of s) n ≡ Check.Scale m → (n ≡ 0) × (m ≡ scale_of s)
    by zero h = (refl, cc)
    by (suc n) h = absurd (let z : ◌≡◌ {A = ℕ} 0 1 = cc in omega arith)
