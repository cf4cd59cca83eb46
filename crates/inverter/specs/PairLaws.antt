-- Demand 3 of the call's own answer: what a pair is, before its shift by periods and after. Assumes nothing.
use Rattle.std.proofs.Math.Path.{◌≡◌, refl}
use Rattle.std.specs.Prelude.{Bool, true, false, ℕ, ◌≤◌, leb, Float}
use Rattle.std.proofs.Math.Bool.{and-eq-true_iff}
use Rattle.std.proofs.Common.{arith, leb-true, leb-false}
use Rattle.vector3.specs.declared.Vector3.{Vector3}
use Rattle.vector3.specs.Laws.{Finite, vector-finite}
use Rattle.surface.specs.Surface.{Surface, axis_u, axis_v, scale_of, refusal_of_surface, evaluate_by, window_of}
use Rattle.surface.specs.SurfaceLaws.{accepted-surface}
use Rattle.surface.specs.Doubles.{Doubled}
use Rattle.window.specs.Values.{values_u, values_v}
use Rattle.window.specs.SurfaceLaws.{window-within-u, window-within-v}
use Rattle.shortlist.specs.FirstSix.{starts_of}
use Rattle.shortlist.specs.SortLaws.{NearestSix}
use Rattle.seeds.specs.Visits.{grid_of, points_of}
use Rattle.seeds.specs.VisitLaws.{PointsOf}
use Rattle.price.specs.Price.{Priced, refused, answered, price}
use Rattle.newton.specs.declared.Iterate.{Iterate}
use Rattle.newton.specs.declared.End.{End}
use Rattle.newton.specs.Run.{run}
use Rattle.newton.specs.RunLaws.{Reached}
use Rattle.newton.specs.EndLaws.{Meant, end-means}
use Rattle.inversion.specs.declared.Hint.{Hint}
use Rattle.inversion.specs.declared.Hint.TheVariants.{Nothing, At}
use Rattle.inversion.specs.declared.Choice.{Choice}
use Rattle.inversion.specs.Inversion.{of_hint, within, inversion_by}
use Rattle.inversion.specs.Nearest.{First}
use Rattle.inversion.proofs.InversionLaws.{far, candidates, taken, among, hint-taken, pair_held}
use Rattle.inversion.specs.GridLaws.{starts-six}
use Rattle.inversion.proofs.OriginLaws.{origin-most}
use Rattle.inversion.proofs.SurfaceLaws as Surfaces
use Rattle.inversion.proofs.SurfaceLaws.{InWindow, InDomain, Paired, Chosen, NoNearer, From, within-domain, whole-grid, first-six, nearest-end, grid-no-nearer, paired}
use Rattle.chart.specs.declared.Period.{Period}
use Rattle.chart.specs.declared.Terms.{Terms}
use Rattle.chart.specs.declared.Placing.TheVariants.{Pair}
use Rattle.chart.specs.Chart.{sound_search, turned_to, turned}
use Rattle.inverter.specs.Inverter.{placed}
use Rattle.inverter.specs.PlacingLaws.{steps_of, result_of, answer-enough, answer-short}

-- the shift moves the pair and leaves its distance
pub same-distance : (h : Hint) (u v : Period) (p : Iterate) → (turned_to h u v p).distance ≡ p.distance
unfolding turned_to
same-distance Nothing u v p = refl
same-distance (At a b) u v p = refl

module _ (s : Surface) (ok : refusal_of_surface s ≡ 0) (mark : Vector3) (terms : Terms) (sound : sound_search mark terms ≡ true) where
  finite : Finite mark
  unfolding sound_search
  finite = vector-finite mark ((and-eq-true_iff _ _).0 sound).0

  -- a run on this surface
  abbrev pub run_from : Float → Float → Priced End
  run_from u v = run (window_of s) mark (evaluate_by s (scale_of s)) u v

  -- "Otherwise it is the nearest of the ends of the hint's run, if any, and of the runs from the first six of the whole grid sorted by distance, equal distances dropped; the hint wins ties, then the earlier."
  pub record Otherwise (c : Choice) (n : ℕ) : Type 0 where
    pub chosen : Chosen s (scale_of s) mark terms.tolerance terms.hint c n
    pub grid : PointsOf mark (evaluate_by s (scale_of s)) (grid_of (values_u s) (values_v s)) chosen.points
    pub starts : NearestSix chosen.points (starts_of chosen.points)
    pub nearest : First far c (candidates (window_of s) mark (evaluate_by s (scale_of s)) (values_u s) (values_v s) chosen)
    -- "In the second case every grid point is at least as far as the pair, unless the run from the nearest, the first in the grid among equals, was nudged." The surface's numbers are doubles, as the contract of `invert` says.
    pub no-nearer : Doubled s → NoNearer s (scale_of s) mark chosen.points c.end

  pub data Source (c : Choice) (n : ℕ) : Type 0 where
    -- "the hint run's end where that lies within tolerance"
    hint-end : {u v : Float} → terms.hint ≡ At u v → run_from u v ≡ answered c.end n → c.origin ≡ 0 → within c.end terms.tolerance ≡ true → Source c n
    otherwise : Otherwise c n → Source c n

  -- a pair that the call answers with the units it took
  pub record Shifted (c : Choice) (n : ℕ) : Type 0 where
    -- that of the plain steps, before the shift
    pub before : Choice
    pub steps : steps_of s mark terms ≡ answered before n
    -- the shift moves the pair alone
    pub shift : c ≡ turned terms before
    pub distance : c.end.at.distance ≡ before.end.at.distance
    pub ending : c.end.ending ≡ before.end.ending
    pub origin : c.origin ≡ before.origin
    -- it was evaluated, and its distance is the one compared
    pub reached : Reached (window_of s) mark (evaluate_by s (scale_of s)) before.end.at
    pub source : Source before n
    -- the run that it came from, from the hint or from one of six starts, and what the name of that run's end tells
    pub from : From s (scale_of s) mark terms.hint before
    pub origin-most : c.origin ≤ 6
    pub told : Meant (window_of s) mark (evaluate_by s (scale_of s)) from.u from.v before.end.ending before.end.at from.made
    -- before that shift, axes without the periodic flag stay in the window
    pub inside-u : InWindow s.shape.u.periodic (window_of s).u before.end.at.u
    pub inside-v : InWindow s.shape.v.periodic (window_of s).v before.end.at.v

  source_of : (hint : Hint) → terms.hint ≡ hint → {c : Choice} {n : ℕ} → Paired s (scale_of s) mark terms.tolerance hint c n → Source c n
  source_of hint h (taken p t) = hint-end h p refl t
  source_of hint h (among c) =
      let k = rw (← h) at c in
      otherwise (record {
        chosen = k;
        grid = whole-grid s (scale_of s) ok mark finite k;
        starts = first-six s (scale_of s) ok mark finite k;
        nearest = nearest-end s (scale_of s) ok mark finite k;
        no-nearer = grid-no-nearer s (scale_of s) ok mark finite k;
      })

  by-steps : (p : Priced Choice) → steps_of s mark terms ≡ p → (c : Choice) (n : ℕ) → result_of terms p ≡ Pair c n → Shifted c n
  unfolding inversion_by
  by-steps (refused k) w c n h = absurd (let z : ◌≡◌ {A = ℕ} 0 1 = cc in omega arith)
  by-steps (answered a k) w c n h =
      let same : k ≡ n = cc in
      let turn : c ≡ turned terms a = cc in
      let from = rw w at (Surfaces.chosen-from s (scale_of s) ok mark finite terms.hint terms.tolerance) in
      let d = rw w at (Surfaces.in_window s (scale_of s) ok mark terms.hint terms.tolerance) in
      record {
        before = a;
        steps = rw (← same) w;
        shift = turn;
        distance = rw turn (same-distance terms.hint terms.u terms.v a.end.at);
        ending = rw turn;
        origin = rw turn;
        reached = rw w at (pair_held (window_of s) mark (evaluate_by s (scale_of s)) (values_u s) (values_v s) terms.hint terms.tolerance);
        source = rw (← same) (source_of terms.hint refl (rw w at (paired s (scale_of s) ok mark terms.hint terms.tolerance)));
        from = from;
        origin-most = rw turn (origin-most (window_of s) mark (evaluate_by s (scale_of s)) from.origin (starts-six (points_of mark (evaluate_by s (scale_of s)) (grid_of (values_u s) (values_v s)))));
        told = end-means (window_of s) mark (evaluate_by s (scale_of s)) from.u from.v a.end from.made from.ran;
        inside-u = d.0;
        inside-v = d.1;
      }

  -- a pair is that of the plain steps, shifted
  pub placed_pair : (budget : ℕ) (c : Choice) (n : ℕ) → placed s mark terms budget ≡ Pair c n → Shifted c n
  placed_pair budget c n h = by (leb (price (steps_of s mark terms)) budget) refl
    where
      by : (t : Bool) → leb (price (steps_of s mark terms)) budget ≡ t → Shifted c n
      by true l = by-steps (steps_of s mark terms) refl c n (rw (answer-enough terms s ok mark sound budget (leb-true _ _ l)) at h)
      by false l = absurd (let g = rw (answer-short terms s ok mark sound budget (leb-false _ _ l)) at h in let z : ◌≡◌ {A = ℕ} 0 1 = cc in omega arith)

  module _ (budget : ℕ) (c : Choice) (n : ℕ) (h : placed s mark terms budget ≡ Pair c n) where
    -- the pair before its shift
    abbrev pub unshifted : Iterate
    unshifted = (placed_pair budget c n h).before.end.at

    -- "Users may then rely on marks staying inside the window wherever they relied on the knot domain"
    pub in_window : InWindow s.shape.u.periodic (window_of s).u unshifted.u × InWindow s.shape.v.periodic (window_of s).v unshifted.v
    in_window = let p = placed_pair budget c n h in (p.inside-u, p.inside-v)

    -- "Before that shift, axes without the periodic flag stay in their knot domain."
    pub in-domain : InDomain s.shape.u.periodic (axis_u s) unshifted.u × InDomain s.shape.v.periodic (axis_v s) unshifted.v
    in-domain =
        let a = accepted-surface s ok in
        (within-domain (axis_u s) (window_of s).u _ (window-within-u s a) in_window.0, within-domain (axis_v s) (window_of s).v _ (window-within-v s a) in_window.1)

  -- and where the hint run's end lies within tolerance, the call answers that end, shifted, for the evaluations of that run
  pub placed-hint : (u v : Float) → terms.hint ≡ At u v → (e : End) (n : ℕ) → run_from u v ≡ answered e n → within e terms.tolerance ≡ true
      → (budget : ℕ) → n ≤ budget → placed s mark terms budget ≡ Pair (turned terms (of_hint e)) n
  unfolding inversion_by
  placed-hint u v h e n r t budget l =
      let k = hint-taken (window_of s) mark (evaluate_by s (scale_of s)) (values_u s) (values_v s) u v terms.tolerance e n r t in
      let w : steps_of s mark terms ≡ answered (of_hint e) n = rw h k in
      rw w at (answer-enough terms s ok mark sound budget (rw w l))

  -- "whether that run came from the hint or from which of the six starts": the pair before its shift, its distance and its end are those of the run from there, and no end of a smaller number is as near
  pub chosen-from : (budget : ℕ) (c : Choice) (n : ℕ) (h : placed s mark terms budget ≡ Pair c n) → From s (scale_of s) mark terms.hint (placed_pair budget c n h).before
  chosen-from budget c n h = (placed_pair budget c n h).from
