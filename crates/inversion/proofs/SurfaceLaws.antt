-- Demand 3 on a surface that passed its checks and a finite mark: what the laws for any evaluation ask of it holds. Assumes nothing.
use Rattle.std.specs.Prelude.{◌≡◌, Bool, true, false, ℕ, ◌+◌, ◌*◌, length, Float}
use Rattle.std.proofs.Common.{◌∙◌, arith}
use mathlib.Core.List.{List, Memᴰ}
use Rattle.std.specs.Float.Ieee.{is_nan, le}
use Rattle.float64.specs.Order.{lt→le, le_trans}
use Rattle.vector3.specs.declared.Vector3.{Vector3}
use Rattle.vector3.specs.Laws.{Finite}
use Rattle.price.specs.Price.{price}
use Rattle.price.specs.PriceLaws.{Between, Answers, answers-map}
use Rattle.price.specs.EvaluationLaws.{Evaluates}
use Rattle.patch.specs.declared.Jet.{Jet}
use Rattle.patch.specs.declared.Evaluated.TheVariants.{Found}
use Rattle.patch.specs.Patch.{from_mark}
use Rattle.spline.specs.Knots.{Axis, low, high, refusal_of_knots}
use Rattle.domain.specs.declared.Interval.{Interval}
use Rattle.surface.specs.Surface.{Surface, axis_u, axis_v, refusal_of_surface, evaluate_by, domain_of, window_of}
use Rattle.surface.specs.SurfaceLaws.{AcceptedSurface, accepted-surface}
use Rattle.surface.specs.EvaluateLaws.{evaluate-numbers}
use Rattle.surface.specs.Doubles.{Doubled}
use Rattle.newton.specs.declared.End.{End}
use Rattle.newton.specs.Run.{clamp_into}
use Rattle.shortlist.specs.declared.Start.{Start}
use Rattle.grid.specs.Axis.{Within, values_of}
use Rattle.grid.specs.AxisLaws.{axis-count}
use Rattle.window.specs.Values.{values_u, values_v}
use Rattle.window.specs.SurfaceLaws.{window-flags, window-within-u, window-within-v, grid-clamped}
use Rattle.shortlist.specs.FirstSix.{starts_of}
use Rattle.shortlist.specs.SortLaws.{NearestSix}
use Rattle.seeds.specs.Finite.{from-mark-number}
use Rattle.seeds.specs.Visits.{grid_of, points_of}
use Rattle.seeds.specs.VisitLaws.{PointsOf, survey-grid}
use Rattle.inversion.specs.declared.Hint.{Hint}
use Rattle.inversion.specs.declared.Choice.{Choice}
use Rattle.inversion.specs.Inversion.{inversion_by}
use Rattle.inversion.specs.Visits.{evaluations_by}
use Rattle.inversion.specs.Nearest.{First}
use Rattle.inversion.proofs.PriceLaws as Prices
use Rattle.inversion.proofs.PriceLaws.{runs_for}
use Rattle.inversion.proofs.VisitLaws.{steps-evaluate}
use Rattle.inversion.proofs.OriginLaws as Origins
use Rattle.inversion.proofs.InversionLaws as Plain
use Rattle.inversion.proofs.InversionLaws.{EndsAt, far, candidates}

-- an axis without the flag holds the pair in the window
abbrev pub InWindow : Bool → Interval → Float → Type 0
InWindow periodic w t = periodic ≡ false → (le w.low t ≡ true) × (le t w.high ≡ true)

-- and so in its knot domain
abbrev pub InDomain : Bool → Axis → Float → Type 0
InDomain periodic a t = periodic ≡ false → (le (low a) t ≡ true) × (le t (high a) ≡ true)

pub within-domain : {periodic : Bool} (a : Axis) (w : Interval) (t : Float) → Within a w.low w.high → InWindow periodic w t → InDomain periodic a t
within-domain a w t h inside f = let i = inside f in (le_trans _ _ _ h.1 i.0, le_trans _ _ _ i.1 h.2)

-- on a surface whose largest weight is m: how a pair came about, how it was chosen where it is not the end of the hint's run, and what its distance is to those of the grid
module _ (s : Surface) (m : Float) (mark : Vector3) where
  abbrev pub Paired : Float → Hint → Choice → ℕ → Type 0
  Paired = Plain.Paired (window_of s) mark (evaluate_by s m) (values_u s) (values_v s)

  abbrev pub Chosen : Float → Hint → Choice → ℕ → Type 0
  Chosen = Plain.Chosen (window_of s) mark (evaluate_by s m) (values_u s) (values_v s)

  abbrev pub NoNearer : List Start → End → Type 0
  NoNearer = Plain.NoNearer (window_of s) mark (evaluate_by s m) (values_u s) (values_v s)

  -- from where a pair came, with the starts of the whole grid
  abbrev pub From : Hint → Choice → Type 0
  From hint c = Origins.From (window_of s) mark (evaluate_by s m) hint (starts_of (points_of mark (evaluate_by s m) (grid_of (values_u s) (values_v s)))) c

counted : (a : Axis) → refusal_of_knots a ≡ 0 → (lo hi : Float) → Within a lo hi → Between 1 (length (values_of a lo hi)) 193
counted a ok lo hi w = let c = axis-count a ok lo hi w in record { above = omega (arith, c.0); under = c.1 }

module _ (s : Surface) (m : Float) (ok : refusal_of_surface s ≡ 0) where
  sound : AcceptedSurface s
  sound = accepted-surface s ok

  counted-u : Between 1 (length (values_u s)) 193
  counted-u = counted (axis_u s) sound.knots-u _ _ (window-within-u s sound)

  counted-v : Between 1 (length (values_v s)) 193
  counted-v = counted (axis_v s) sound.knots-v _ _ (window-within-v s sound)

  -- by its grid
  pub price-by-grid : (mark : Vector3) (hint : Hint) (tolerance : Float) → Between 1 (price (inversion_by s m mark hint tolerance)) (length (values_u s) * length (values_v s) + runs_for hint)
  unfolding inversion_by
  price-by-grid mark hint tolerance = Prices.price-by-grid (window_of s) mark (evaluate_by s m) (values_u s) (values_v s) counted-u counted-v hint tolerance

  -- "an inversion on it has one price, .. 1 to 37,513"
  pub price-bounds : (mark : Vector3) (hint : Hint) (tolerance : Float) → Between 1 (price (inversion_by s m mark hint tolerance)) 37513
  unfolding inversion_by
  price-bounds mark hint tolerance = Prices.price-bounds (window_of s) mark (evaluate_by s m) (values_u s) (values_v s) counted-u counted-v hint tolerance

  -- the price is the number of pairs that the plain steps evaluate; where they are answered all are found, and where not the last is refused and no other
  pub price-is-count : (mark : Vector3) (hint : Hint) (tolerance : Float) → Evaluates (evaluate_by s m) (inversion_by s m mark hint tolerance) (evaluations_by s m mark hint tolerance)
  unfolding inversion_by evaluations_by
  price-is-count mark hint tolerance = steps-evaluate (window_of s) mark (evaluate_by s m) (values_u s) (values_v s) counted-u.above counted-v.above hint tolerance

  -- "Users may then rely on marks staying inside the window wherever they relied on the knot domain"
  pub in_window : (mark : Vector3) (hint : Hint) (tolerance : Float)
      → EndsAt (λ e. InWindow s.shape.u.periodic (window_of s).u e.at.u × InWindow s.shape.v.periodic (window_of s).v e.at.v) (inversion_by s m mark hint tolerance)
  unfolding inversion_by
  in_window mark hint tolerance =
      let flags = window-flags (domain_of s) s.shape.window in
      let u = lt→le _ _ (window-within-u s sound).0 in
      let v = lt→le _ _ (window-within-v s sound).0 in
      answers-map _ _ (λ e n h. ((λ f. h.0 (flags.0 ∙ f) u), (λ f. h.1 (flags.1 ∙ f) v)))
      (inversion_by s m mark hint tolerance)
      (Plain.in-domain (window_of s) mark (evaluate_by s m) (values_u s) (values_v s) (evaluate-numbers s m) hint tolerance)

  -- no pair is a NaN
  pub pair-number : (mark : Vector3) (hint : Hint) (tolerance : Float) → EndsAt (λ e. (is_nan e.at.u ≡ false) × (is_nan e.at.v ≡ false)) (inversion_by s m mark hint tolerance)
  unfolding inversion_by
  pair-number mark hint tolerance = Plain.pair-number (window_of s) mark (evaluate_by s m) (values_u s) (values_v s) (evaluate-numbers s m) hint tolerance

  module _ (mark : Vector3) (finite : Finite mark) where
    number : (u v : Float) (j : Jet) → evaluate_by s m u v ≡ Found j → is_nan (from_mark mark j) ≡ false
    number = from-mark-number s m mark finite

    -- the pair, its distance and its end are those of the run from the hint, or from the start in that place, and no end of a smaller number is as near
    pub chosen-from : (hint : Hint) (tolerance : Float) → Answers (λ c n. From s m mark hint c) (inversion_by s m mark hint tolerance)
    unfolding inversion_by
    chosen-from hint tolerance = Origins.chosen-from (window_of s) mark (evaluate_by s m) (values_u s) (values_v s) number hint tolerance

    module _ {tolerance : Float} {hint : Hint} {e : Choice} {n : ℕ} (c : Chosen s m mark tolerance hint e n) where
      -- "Otherwise it is the nearest of the ends of the hint's run, if any, and of the runs from the first six .. ; the hint wins ties, then the earlier"
      pub nearest-end : First far e (candidates (window_of s) mark (evaluate_by s m) (values_u s) (values_v s) c)
      nearest-end = Plain.ties (window_of s) mark (evaluate_by s m) (values_u s) (values_v s) number c

      -- "the whole grid": the points are those of each u value with each v value, u-major, with the distances of their evaluations
      pub whole-grid : PointsOf mark (evaluate_by s m) (grid_of (values_u s) (values_v s)) c.points
      whole-grid = rw c.whole at (survey-grid mark (evaluate_by s m) (values_u s) (values_v s))

      -- "the first six of the whole grid sorted by distance, equal distances dropped"
      pub first-six : NearestSix c.points (starts_of c.points)
      first-six = Plain.first-six (window_of s) mark (evaluate_by s m) (values_u s) (values_v s) number c

      -- "every grid point is at least as far as the pair, unless the run from the nearest, the first in the grid among equals, was nudged"
      pub grid-no-nearer : Doubled s → NoNearer s m mark c.points e.end
      grid-no-nearer doubles = Plain.grid-no-nearer (window_of s) mark (evaluate_by s m) (values_u s) (values_v s) number (clamped doubles) c counted-u.above counted-v.above
        where
          clamped : Doubled s → (u v : Float) (j : Jet) → evaluate_by s m u v ≡ Found j → Memᴰ u (values_u s) → Memᴰ v (values_v s)
              → evaluate_by s m (clamp_into (window_of s).u u) (clamp_into (window_of s).v v) ≡ Found j
          clamped doubles u v j h mu mv = let e = grid-clamped s sound doubles m u v j h mu mv in rw (e.0, e.1) h

  -- the pair is the hint run's end within the tolerance, or it was chosen among the ends
  pub paired : (mark : Vector3) (hint : Hint) (tolerance : Float) → Answers (Paired s m mark tolerance hint) (inversion_by s m mark hint tolerance)
  unfolding inversion_by
  paired mark hint tolerance = Plain.plain_steps-paired (window_of s) mark (evaluate_by s m) (values_u s) (values_v s) tolerance hint
