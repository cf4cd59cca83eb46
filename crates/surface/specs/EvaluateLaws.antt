-- Laws of an evaluation: what it finds is finite, and a parameter counts only as it wraps and snaps. Assumes nothing.
use Rattle.std.proofs.Math.Path.{◌≡◌, refl}
use Rattle.std.proofs.Common.{sym, ap, ◌∙◌, arith}
use Rattle.std.specs.Prelude.{Bool, cond, List, ℕ, Float}
use Rattle.std.proofs.Math.Bool.{true, false}
use Rattle.std.proofs.lemmas.Bool.{false≢true}
use Rattle.std.specs.Float.Ieee.{is_nan}
use Rattle.float64.specs.Functions.{is_finite, clamp}
use Rattle.float64.specs.Order.{lt→le, finite→number}
use Rattle.spline.specs.declared.parameter.KnotSide.TheVariants.{Right}
use Rattle.spline.specs.declared.parameter.Snapped.{Snapped}
use Rattle.spline.specs.declared.parameter.Snapped.TheVariants.{At, Outside}
use Rattle.spline.specs.Knots.{low, high, refusal_of_knots, snapped}
use Rattle.spline.specs.KnotLaws.{accepted}
use Rattle.spline.specs.ParameterLaws.{snap-clamp, snap-snap}
use Rattle.basis.specs.Basis.{Sample, refused, sample, sample_at, basis_at}
use Rattle.basis.specs.BasisLaws.{by-snapped}
use Rattle.patch.specs.declared.Jet.{Jet}
use Rattle.patch.specs.declared.Evaluated.TheVariants.{Found}
use Rattle.patch.specs.Laws.{FiniteJet, jet-finite}
use Rattle.domain.specs.declared.Counts.{Counts}
use Rattle.domain.specs.Intervals.{wrapped, axis_of}
use Rattle.surface.specs.Surface.{Surface, refusal_of_surface, blended, sample_u, sample_v, evaluate_by}
use Rattle.domain.specs.WrapLaws.{wrap-flagless, wrap-not-finite}
use Rattle.surface.specs.SurfaceLaws.{accepted-surface}
use Rattle.surface.specs.Lent.{sample_on}

-- where a parameter of an axis lies, wrapped and snapped
abbrev pub placed : Counts → List Float → Float → Snapped
placed n ks t = let a = axis_of n ks in snapped (low a) (high a) (wrapped n.periodic (low a) (high a) t)

-- clamped, unless the axis is periodic
abbrev pub clamped_on : Counts → List Float → Float → Float
clamped_on n ks t = let a = axis_of n ks in cond n.periodic t (clamp t (low a) (high a))

-- ---- one axis

abbrev answers : Sample → Bool
answers refused = false
answers (sample i ts) = true

nowhere : {u : Float} {A : Type 0} → Outside ≡ At u → A
nowhere e = let z : ◌≡◌ {A = ℕ} 0 1 = cc in absurd (omega arith)

module _ (n : Counts) (ks : List Float) where
  pub sample-by-place : (t u : Float) → placed n ks t ≡ placed n ks u → sample_on n ks t ≡ sample_on n ks u
  sample-by-place t u e = by-snapped (axis_of n ks) Right _ _ e

  module _ (t : Float) (found : answers (sample_on n ks t) ≡ true) where
    place : (u : Float) × (placed n ks t ≡ At u)
    unfolding basis_at sample_at
    place = by (placed n ks t) refl found
      where
        by : (p : Snapped) → placed n ks t ≡ p → answers (sample_at (axis_of n ks) Right p) ≡ true → (u : Float) × (placed n ks t ≡ At u)
        by Outside e h = absurd (false≢true h)
        by (At u) e h = (u, e)

    parameter-finite : is_finite t ≡ true
    unfolding snapped
    parameter-finite = by (is_finite t) refl
      where
        by : (f : Bool) → is_finite t ≡ f → is_finite t ≡ true
        by true e = e
        by false e =
            let a = axis_of n ks in
            nowhere (simp (wrap-not-finite n.periodic (low a) (high a) t e, e) at place.1)

    sample-clamped : refusal_of_knots (axis_of n ks) ≡ 0 → sample_on n ks (clamped_on n ks t) ≡ sample_on n ks t
    sample-clamped ok = by n.periodic refl
      where
        by : (f : Bool) → n.periodic ≡ f → sample_on n ks (clamped_on n ks t) ≡ sample_on n ks t
        by true e = rw e
        by false e =
            let a = axis_of n ks in
            let A = accepted a ok in
            let p = place in
            let flat : snapped (low a) (high a) t ≡ At p.0 = ap (snapped (low a) (high a)) (sym (wrap-flagless _ _ _ t e)) ∙ p.1 in
            let again = snap-snap (low a) (high a) (A.finite _ (omega arith)) (A.finite _ (omega arith)) (lt→le _ _ A.wide) t p.0 flat in
            let same : clamped_on n ks t ≡ p.0 = simp e (sym (snap-clamp (low a) (high a) t p.0 flat)) in
            sample-by-place _ _ (ap (placed n ks) same ∙ ap (snapped (low a) (high a)) (wrap-flagless _ _ _ p.0 e) ∙ again ∙ sym p.1)

-- ---- the surface

module _ (s : Surface) (m : Float) where
  samples-found : (p q : Sample) {j : Jet} → blended s m p q ≡ Found j → (answers p ≡ true) × (answers q ≡ true) × FiniteJet j
  unfolding blended
  samples-found refused q h = let z : ◌≡◌ {A = ℕ} 0 1 = cc in absurd (omega arith)
  samples-found (sample i cs) refused h = let z : ◌≡◌ {A = ℕ} 0 1 = cc in absurd (omega arith)
  samples-found (sample i cs) (sample k bs) h = (refl, refl, jet-finite _ h)

  by-samples : (x x' y y' : Float) → sample_u s x ≡ sample_u s x' → sample_v s y ≡ sample_v s y' → evaluate_by s m x y ≡ evaluate_by s m x' y'
  unfolding evaluate_by
  by-samples x x' y y' e f = rw (e, f)

  -- an evaluation depends on a parameter only through wrap and snap
  pub evaluate-by-wrap-and-snap : (x x' y y' : Float) → placed s.shape.u s.knots_u x ≡ placed s.shape.u s.knots_u x'
      → placed s.shape.v s.knots_v y ≡ placed s.shape.v s.knots_v y' → evaluate_by s m x y ≡ evaluate_by s m x' y'
  evaluate-by-wrap-and-snap x x' y y' e f = by-samples x x' y y' (sample-by-place s.shape.u s.knots_u x x' e) (sample-by-place s.shape.v s.knots_v y y' f)

  module _ (x y : Float) (j : Jet) (h : evaluate_by s m x y ≡ Found j) where
    parts : (answers (sample_u s x) ≡ true) × (answers (sample_v s y) ≡ true) × FiniteJet j
    unfolding evaluate_by
    parts = samples-found (sample_u s x) (sample_v s y) h

    pub evaluate-finite : FiniteJet j
    evaluate-finite = parts.2

    pub evaluate-parameters : (is_finite x ≡ true) × (is_finite y ≡ true)
    evaluate-parameters = (parameter-finite s.shape.u s.knots_u x parts.0, parameter-finite s.shape.v s.knots_v y parts.1)

    pub evaluate-numbers : (is_nan x ≡ false) × (is_nan y ≡ false)
    evaluate-numbers = (finite→number x evaluate-parameters.0, finite→number y evaluate-parameters.1)

    -- where an evaluation succeeds it is that of the clamped parameters
    pub evaluate-clamped : refusal_of_surface s ≡ 0 → evaluate_by s m (clamped_on s.shape.u s.knots_u x) (clamped_on s.shape.v s.knots_v y) ≡ Found j
    evaluate-clamped ok =
        let a = accepted-surface s ok in
        by-samples _ x _ y (sample-clamped s.shape.u s.knots_u x parts.0 a.knots-u) (sample-clamped s.shape.v s.knots_v y parts.1 a.knots-v) ∙ h
