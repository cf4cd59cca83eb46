-- An evaluation of a bounded surface by the values and first derivatives of the functions, which stand in a row each. Assumes nothing.
use Rattle.std.proofs.Math.Path.{◌≡◌, sym}
use Rattle.std.specs.Prelude.{refl, true, ℕ, suc, ◌+◌, ◌<◌, Float}
use Rattle.std.proofs.Common.{◌∙◌, arith}
use mathlib.Core.List.{List, map}
use Rattle.std.proofs.Math.ListN.{take, get_or-map}
use Rattle.std.proofs.Math.Seq.{get_or-take}
use Rattle.std.specs.Float.Ieee.{nan, le}
use Rattle.spline.specs.declared.parameter.KnotSide.TheVariants.{Right}
use Rattle.spline.specs.Knots.{refusal_of_knots}
use Rattle.basis.specs.declared.Place.{Place}
use Rattle.basis.specs.Basis.{Three, three, Sample, refused, sample}
use Rattle.basis.specs.BasisLaws.{support}
use Rattle.basis.specs.Parts.{value_of, first_of, part_of, shown_part}
use Rattle.patch.specs.declared.Sum.{Sum}
use Rattle.patch.specs.declared.Sums.{Sums}
use Rattle.patch.specs.declared.Evaluated.TheVariants.{Found}
use Rattle.patch.specs.Patch.{jet_of_sums}
use Rattle.domain.specs.declared.Counts.{Counts}
use Rattle.net.specs.Sums.{rows_of, columns_of}
use Rattle.surface.specs.Surface.{Surface, sample_u, sample_v, evaluate_by, refusal_of_surface, scale_of, function_at, sums}
use Rattle.surface.specs.SurfaceLaws.{accepted-surface}
use Rattle.domain.specs.Intervals.{axis_of}
use Rattle.surface.specs.Lent.{sample_on}
use Rattle.surface.specs.PatchLaws.{patch-below}
use Rattle.net.specs.Net.{Patch, WeighedNet, number_at, sum_by}
use Rattle.surface.specs.SumLaws.{value-alone, u-alone, v-alone}
use Rattle.scaled.specs.Magnitude.{Bounded, least_weight, bounded-found}

-- ---- one axis

-- what a row that shows a part of a sample tells of the whole
record Functions (n : Counts) (p : Place) (s : Sample) : Type 0 where
  all : List Three
  is : s ≡ sample p.start all
  below : p.start + n.degree < n.controls

module _ (degree : ℕ) (p : Place) (found : p.found ≡ true) where
  sampled : (f : Three → Float) (row : List Float) (s : Sample) → shown_part degree p row ≡ part_of f s → (ts : List Three) × (s ≡ sample p.start ts)
  unfolding shown_part part_of
  sampled f row refused e = let z : ◌≡◌ {A = ℕ} 0 1 = cc (simp found at e) in absurd (omega arith)
  sampled f row (sample i ts) e = (ts, let q : i ≡ p.start = cc (simp found at e) in rw q)

  -- a row that shows a part of a sample holds it of each function
  row_is : (f : Three → Float) → f (three nan nan nan) ≡ nan → (row : List Float) (ts : List Three) {s : Sample} → s ≡ sample p.start ts → shown_part degree p row ≡ part_of f s
      → (n : ℕ) → n < degree + 1 → f (function_at ts n) ≡ number_at row n
  unfolding shown_part part_of
  row_is f e row ts h shows n l =
      let q : take (suc degree) row ≡ map f ts = cc (simp (found, h) at shows) in
      sym (get_or-map f ts n (three nan nan nan)) ∙ rw (e, ← q, get_or-take (suc degree) row n nan (omega arith))

module _ (n : Counts) (ks : List Float) (t : Float) (p : Place) (row : List Float) (ok : refusal_of_knots (axis_of n ks) ≡ 0) (found : p.found ≡ true) (e : shown_part n.degree p row ≡ part_of value_of (sample_on n ks t)) where
  functions : Functions n p (sample_on n ks t)
  functions =
      let z = sampled n.degree p found value_of row (sample_on n ks t) e in
      let r = support (axis_of n ks) Right _ p.start z.0 z.1 ok in
      record { all = z.0; is = z.1; below = r.below }

  pub values-below : p.start + n.degree < n.controls
  values-below = functions.below

-- ---- both, where the values are found

module _ (s : Surface) (ok : refusal_of_surface s ≡ 0) (x y : Float) (p q : Place) (us vs : List Float) (pf : p.found ≡ true) (qf : q.found ≡ true)
    (eu : shown_part s.shape.u.degree p us ≡ part_of value_of (sample_u s x)) (ev : shown_part s.shape.v.degree q vs ≡ part_of value_of (sample_v s y)) where
  along-u : Functions s.shape.u p (sample_u s x)
  along-u = functions s.shape.u s.knots_u x p us (accepted-surface s ok).knots-u pf eu

  along-v : Functions s.shape.v q (sample_v s y)
  along-v = functions s.shape.v s.knots_v y q vs (accepted-surface s ok).knots-v qf ev

  pub patch-of : Patch s.shape p.start q.start
  patch-of = patch-below s ok p.start q.start along-u.below along-v.below

  module _ (B : Bounded s) (net : List Float) (w : WeighedNet s.shape s.weights (scale_of s) p.start q.start net) where
    abbrev by : List Float → List Float → Sum
    by = sum_by s.shape s.controls p.start q.start net

    abbrev whole : Sums
    whole = sums s (scale_of s) p.start q.start along-u.all along-v.all

    row-u : (f : Three → Float) → f (three nan nan nan) ≡ nan → (fs : List Float) → shown_part s.shape.u.degree p fs ≡ part_of f (sample_u s x) → (n : ℕ) → n < rows_of s.shape → f (function_at along-u.all n) ≡ number_at fs n
    row-u f e fs shows = row_is _ p pf f e fs _ along-u.is shows

    row-v : (f : Three → Float) → f (three nan nan nan) ≡ nan → (fs : List Float) → shown_part s.shape.v.degree q fs ≡ part_of f (sample_v s y) → (n : ℕ) → n < columns_of s.shape → f (function_at along-v.all n) ≡ number_at fs n
    row-v f e fs shows = row_is _ q qf f e fs _ along-v.is shows

    value-is : whole.value ≡ by us vs
    value-is = value-alone s (scale_of s) _ _ net w _ _ us vs (row-u value_of refl us eu, row-v value_of refl vs ev)

    module _ (heavy : le least_weight (by us vs).w ≡ true) where
      found : evaluate_by s (scale_of s) x y ≡ Found (jet_of_sums whole.value whole.u whole.v)
      found = bounded-found s ok B x y along-u.is along-v.is (rw value-is heavy)

      -- whatever its derivatives are, the point is found
      pub point-found : (a b : Sum) × (evaluate_by s (scale_of s) x y ≡ Found (jet_of_sums (by us vs) a b))
      point-found = (whole.u, whole.v, rw value-is at found)

      pub jet-found : (fs gs : List Float) → shown_part s.shape.u.degree p fs ≡ part_of first_of (sample_u s x) → shown_part s.shape.v.degree q gs ≡ part_of first_of (sample_v s y)
          → evaluate_by s (scale_of s) x y ≡ Found (jet_of_sums (by us vs) (by fs vs) (by us gs))
      jet-found fs gs ef eg =
          let a : whole.u ≡ by fs vs = u-alone s (scale_of s) _ _ net w _ _ fs vs (row-u first_of refl fs ef, row-v value_of refl vs ev) in
          let b : whole.v ≡ by us gs = v-alone s (scale_of s) _ _ net w _ _ us gs (row-u value_of refl us eu, row-v first_of refl gs eg) in
          rw (value-is, a, b) at found
