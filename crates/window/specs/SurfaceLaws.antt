-- The window of an accepted surface: it lies in the knot domain, and its grid lies in it. Assumes nothing.
use Rattle.std.specs.Prelude.{◌≡◌, refl, Bool, Float}
use Rattle.std.proofs.Math.Path.{ap}
use Rattle.std.proofs.Common.{◌∙◌, arith}
use Rattle.std.proofs.Math.Bool.{true, false, not, cond}
use mathlib.Core.List.{Memᴰ}
use Rattle.std.specs.Float.Ieee.{lt, le}
use Rattle.std.proofs.lemmas.Bool.{not-false}
use Rattle.float64.specs.Functions.{is_finite, clamp}
use Rattle.float64.specs.Order.{neither, le_refl, le→number, lt→le, le_not_lt, finite→number}
use Rattle.spline.specs.Knots.{refusal_of_knots}
use Rattle.spline.specs.KnotLaws.{accepted}
use Rattle.patch.specs.declared.Jet.{Jet}
use Rattle.patch.specs.declared.Evaluated.TheVariants.{Found}
use Rattle.domain.specs.declared.Window.{Window}
use Rattle.domain.specs.declared.Window.TheVariants.{Whole, Within}
use Rattle.domain.specs.declared.Interval.{Interval}
use Rattle.domain.specs.declared.Domain.{Domain}
use Rattle.domain.specs.Doubles.{Double, DoubleWindow}
use Rattle.domain.specs.Windows.{misfits_on, misfits, window_on, window_in}
use Rattle.surface.specs.Surface.{Surface, axis_u, axis_v, domain_of, window_of, evaluate_by}
use Rattle.surface.specs.SurfaceLaws.{AcceptedSurface}
use Rattle.surface.specs.EvaluateLaws.{evaluate-parameters}
use Rattle.surface.specs.Doubles.{Doubled}
use Rattle.newton.specs.Run.{clamp_into}
use Rattle.grid.specs.Axis as Grid
use Rattle.window.specs.Values.{values_u, values_v}
use Rattle.window.specs.ValueLaws.{either-fits, clamp-keeps}

-- ---- one axis

-- an interval in another
abbrev In : Interval → Interval → Type 0
In i w = (lt w.low w.high ≡ true) × (le i.low w.low ≡ true) × (le w.high i.high ≡ true)

module _ (i : Interval) (wide : lt i.low i.high ≡ true) where
  ends : le i.low i.high ≡ true
  ends = lt→le i.low i.high wide

  whole_in : In i i
  whole_in = let n = le→number i.low i.high ends in (wide, le_refl i.low n.0, le_refl i.high n.1)

  -- by check 24
  window-in : (lo hi : Float) → misfits_on i lo hi ≡ false → In i (window_on i lo hi)
  unfolding misfits_on window_on
  window-in lo hi h =
      let t1 = neither _ _ h in
      let t2 = neither _ _ t1.0 in
      let t3 = neither _ _ t2.0 in
      let t4 = neither _ _ t3.0 in
      let t5 = neither _ _ t4.0 in
      let n = le→number i.low i.high ends in
      let low = finite→number lo (not-false (is_finite lo) t5.0) in
      let high = finite→number hi (not-false (is_finite hi) t5.1) in
      by i.periodic (not-false (lt lo hi) t4.1) (le_not_lt i.low lo n.0 low ∙ ap not t3.1) (le_not_lt hi i.high high n.1 ∙ ap not t2.1)
    where
      by : (p : Bool) → lt lo hi ≡ true → le i.low lo ≡ true → le hi i.high ≡ true
          → In i (record { low = cond p i.low lo; high = cond p i.high hi; periodic = p })
      by true r l u = whole_in
      by false r l u = (r, l, u)

-- doubles at both ends
abbrev Ends : Interval → Type 0
Ends i = Double i.low × Double i.high

window-double : (i : Interval) (lo hi : Float) → Ends i → Double lo → Double hi → Ends (window_on i lo hi)
unfolding window_on
window-double i lo hi e f g = (either-fits i.periodic i.low lo e.0 f, either-fits i.periodic i.high hi e.1 g)

-- what a clamp keeps
clamped-to : (i : Interval) (t : Float) → clamp t i.low i.high ≡ t → clamp_into i t ≡ t
unfolding clamp_into
clamped-to i t e = by i.periodic
  where
    by : (p : Bool) → cond p t (clamp t i.low i.high) ≡ t
    by true = refl
    by false = e

-- ---- both

module _ (d : Domain) where
  pub window-flags : (w : Window) → ((window_in w d).u.periodic ≡ d.u.periodic) × ((window_in w d).v.periodic ≡ d.v.periodic)
  unfolding window_in window_on
  window-flags Whole = (refl, refl)
  window-flags (Within a b c e) = (refl, refl)

  both-in : lt d.u.low d.u.high ≡ true → lt d.v.low d.v.high ≡ true → (w : Window) → misfits w d ≡ false → In d.u (window_in w d).u × In d.v (window_in w d).v
  unfolding misfits window_in
  both-in wu wv Whole h = (whole_in d.u wu, whole_in d.v wv)
  both-in wu wv (Within a b c e) h = let t = neither _ _ h in (window-in d.u wu a b t.0, window-in d.v wv c e t.1)

  both-double : Ends d.u → Ends d.v → (w : Window) → DoubleWindow w → Ends (window_in w d).u × Ends (window_in w d).v
  unfolding window_in
  both-double u v Whole f = (u, v)
  both-double u v (Within a b c e) f = (window-double d.u a b u f.0 f.1, window-double d.v c e v f.2 f.3)

-- the window of accepted knots that passes check 24
pub window-in-domain : (s : Surface) → refusal_of_knots (axis_u s) ≡ 0 → refusal_of_knots (axis_v s) ≡ 0 → misfits s.shape.window (domain_of s) ≡ false
    → Grid.Within (axis_u s) (window_of s).u.low (window_of s).u.high × Grid.Within (axis_v s) (window_of s).v.low (window_of s).v.high
window-in-domain s ku kv w = both-in (domain_of s) (accepted (axis_u s) ku).wide (accepted (axis_v s) kv).wide s.shape.window w

module _ (s : Surface) (ok : AcceptedSurface s) where
  in-domain : In (domain_of s).u (window_of s).u × In (domain_of s).v (window_of s).v
  in-domain = both-in (domain_of s) (accepted (axis_u s) ok.knots-u).wide (accepted (axis_v s) ok.knots-v).wide s.shape.window ok.window

  -- the window lies in the knot domain, its low below its high
  pub window-within-u : Grid.Within (axis_u s) (window_of s).u.low (window_of s).u.high
  window-within-u = in-domain.0

  pub window-within-v : Grid.Within (axis_v s) (window_of s).v.low (window_of s).v.high
  window-within-v = in-domain.1

  -- ---- the grid

  module _ (doubles : Doubled s) where
    window-doubles : Ends (window_of s).u × Ends (window_of s).v
    window-doubles =
        let A = accepted (axis_u s) ok.knots-u in
        let B = accepted (axis_v s) ok.knots-v in
        both-double (domain_of s) (doubles.u _ (omega (arith, A.count)), doubles.u _ (omega (arith, A.count))) (doubles.v _ (omega (arith, B.count)), doubles.v _ (omega (arith, B.count))) s.shape.window doubles.window

    -- a grid value at which an evaluation succeeds is clamped to itself
    pub grid-clamped : (m u v : Float) (j : Jet) → evaluate_by s m u v ≡ Found j → Memᴰ u (values_u s) → Memᴰ v (values_v s)
        → (clamp_into (window_of s).u u ≡ u) × (clamp_into (window_of s).v v ≡ v)
    grid-clamped m u v j e mu mv =
        let f = evaluate-parameters s m u v j e in
        let w = window-doubles in (
          clamped-to (window_of s).u u (clamp-keeps (axis_u s) ok.knots-u _ _ window-within-u doubles.u w.0.0 w.0.1 u mu f.0),
          clamped-to (window_of s).v v (clamp-keeps (axis_v s) ok.knots-v _ _ window-within-v doubles.v w.1.0 w.1.1 v mv f.1),
        )
