-- "With the window's bits equal to the domain's, answers and prices are the old ones": every call answers of such a surface what it answers of the surface without a window (`window-whole`), and that has the source's grid (`whole-grid`). Assumes nothing.
use Rattle.std.proofs.Math.Path.{◌≡◌, refl, ap, fun_ext}
use Rattle.std.specs.Prelude.{Bool, not, length, Float}
use Rattle.std.proofs.Math.Bool.{true, false, cond, and-false}
use mathlib.Core.List.{List, [], ◌∷◌}
use Prim.Native.Nat.{ℕ, zero, suc, ◌+◌}
use Rattle.std.proofs.Common.{arith}
use Rattle.std.specs.Float.Ieee.{lt}
use Rattle.float64.specs.Functions.{is_finite}
use Rattle.float64.specs.Order.{lt_irrefl, eq_refl, finite→number}
use Rattle.vector3.specs.declared.Vector3.{Vector3}
use Rattle.spline.specs.Knots.{refusal_of_knots}
use Rattle.spline.specs.KnotLaws.{accepted}
use Rattle.basis.specs.Basis.{Sample, refused, sample}
use Rattle.net.specs.Sums.{heaviest}
use Rattle.domain.specs.declared.Interval.{Interval}
use Rattle.domain.specs.Windows.{misfits_on, misfits, window_on, window_in}
use Rattle.surface.specs.declared.Checked.{Checked}
use Rattle.surface.specs.declared.Checked.TheVariants as Check
use Rattle.surface.specs.Surface.{Surface, axis_u, axis_v, domain_of, window_of, or_else, when, refusal_of_surface, judged, checked, scale_of, too_large, miscounted, sums, blended, sample_u, sample_v, evaluate_by, evaluated_by, evaluated}
use Rattle.surface.specs.SurfaceLaws.{accepted-surface}
use Rattle.edges.specs.Edges.{edges_of, tested, singular_by, singular}
use Rattle.window.specs.Values.{values_u, values_v}
use Rattle.window.specs.SourceLaws.{source_values, source-values}
use Rattle.inversion.specs.declared.Hint.{Hint}
use Rattle.inversion.specs.Inversion.{inversion_by}
use Rattle.chart.specs.declared.Terms.{Terms}
use Rattle.chart.specs.Chart.{sound_terms, placed_by}
use Rattle.inverter.specs.Inverter.{on_checked, placed}
use Rattle.inverter.specs.Preimage.{derived}
use Rattle.row_step.specs.declared.Progress.{Progress}
use Rattle.row_step.specs.declared.Stepped.{Stepped}
use Rattle.row_step.specs.Step.{stepped}
use Rattle.row.specs.Row.{preceded, and_then, in_turn, marks_of, unless_refused, rowed, misfit, row_into}
use Rattle.job_format.specs.Format.{Limits, Job}
use Rattle.job.specs.Printout.{search_terms, job_lines}
use Rattle.whole.specs.Windowed.{framed, unframed}

-- ---- one axis

module _ (i : Interval) where
  -- the domain's own ends leave the domain
  own-window : window_on i i.low i.high ≡ i
  unfolding window_on
  own-window = by i.periodic
    where
      by : (p : Bool) → ◌≡◌ {A = Interval} (record { low = cond p i.low i.low; high = cond p i.high i.high; periodic = p }) (record { low = i.low; high = i.high; periodic = p })
      by true = refl
      by false = refl

  -- and pass check 24
  own-fits : is_finite i.low ≡ true → is_finite i.high ≡ true → lt i.low i.high ≡ true → misfits_on i i.low i.high ≡ false
  unfolding misfits_on
  own-fits f g w =
      simp (f, g, w, lt_irrefl i.low, lt_irrefl i.high, eq_refl i.low (finite→number i.low f), eq_refl i.high (finite→number i.high g), and-false)

-- ---- what a window changes of a surface

module _ (s : Surface) where
  -- nothing of an evaluation
  same-blend : (m : Float) (p q : Sample) → blended (framed s) m p q ≡ blended (unframed s) m p q
  unfolding blended sums heaviest
  same-blend m refused q = refl
  same-blend m (sample i us) refused = refl
  same-blend m (sample i us) (sample j vs) = refl

  same-jets : evaluate_by (framed s) ≡ evaluate_by (unframed s)
  unfolding evaluate_by
  same-jets = fun_ext (λ m. fun_ext (λ x. fun_ext (λ y. same-blend m (sample_u s x) (sample_v s y))))

  same-window : window_of (framed s) ≡ window_of (unframed s)
  unfolding window_in
  same-window = let d = domain_of s in rw (own-window d.u, own-window d.v)

  last-same : (k l m : ℕ) → (k ≡ 0 → l ≡ 0 → m ≡ 0) → or_else k (or_else l m) ≡ or_else k (or_else l 0)
  unfolding or_else
  last-same zero zero m h = h refl refl
  last-same zero (suc l) m h = refl
  last-same (suc k) l m h = refl

  -- 24 is no matter: it is tested where the knots are accepted
  same-refusal : refusal_of_surface (framed s) ≡ refusal_of_surface (unframed s)
  unfolding refusal_of_surface too_large miscounted misfits
  same-refusal = rw (last-same (refusal_of_knots (axis_u s)) (refusal_of_knots (axis_v s)) _ fits)
    where
      fits : refusal_of_knots (axis_u s) ≡ 0 → refusal_of_knots (axis_v s) ≡ 0 → when (misfits (framed s).shape.window (domain_of s)) 24 ≡ 0
      fits u v =
          let A = accepted (axis_u s) u in
          let B = accepted (axis_v s) v in
          let d = domain_of s in
          simp (own-fits d.u (A.finite _ (omega arith)) (A.finite _ (omega arith)) A.wide, own-fits d.v (B.finite _ (omega arith)) (B.finite _ (omega arith)) B.wide)

  same-checks : checked (framed s) ≡ checked (unframed s)
  unfolding checked
  same-checks = ap (judged (scale_of s)) same-refusal

  same-steps : (m : Float) (mark : Vector3) (hint : Hint) (tolerance : Float) → inversion_by (framed s) m mark hint tolerance ≡ inversion_by (unframed s) m mark hint tolerance
  unfolding inversion_by
  same-steps m mark hint tolerance = rw (same-window, same-jets)

  -- what follows the checks
  onto : {A : Type 0} (refuse : ℕ → A) (f g : Float → A) → ((m : Float) → f m ≡ g m) → on_checked refuse (checked (framed s)) f ≡ on_checked refuse (checked (unframed s)) g
  unfolding on_checked
  onto refuse f g same = rw same-checks (by (checked (unframed s)))
    where
      by : (c : Checked) → on_checked refuse c f ≡ on_checked refuse c g
      by (Check.Refusal n) = refl
      by (Check.Scale m) = same m

  same-placing : (mark : Vector3) (terms : Terms) (budget : ℕ) → placed (framed s) mark terms budget ≡ placed (unframed s) mark terms budget
  unfolding placed placed_by
  same-placing mark terms budget = onto _ _ _ (λ m. rw (same-steps m mark terms.hint terms.tolerance))

  same-turns : (i : ℕ) (marks : List Vector3) (p : Progress) → in_turn (framed s) i marks p ≡ in_turn (unframed s) i marks p
  unfolding in_turn stepped and_then
  same-turns i [] p = refl
  same-turns i (m ∷ marks) p = rw (same-placing m p.terms p.left) (by (stepped (unframed s) m p) (same-turns (i + 1) marks))
    where
      by : (r : Stepped) → ((q : Progress) → in_turn (framed s) (i + 1) marks q ≡ in_turn (unframed s) (i + 1) marks q) → and_then i (in_turn (framed s) (i + 1) marks) r ≡ and_then i (in_turn (unframed s) (i + 1) marks) r
      by (Stepped.Placed c q) rest = ap (preceded (record { choice = c; left = q.left })) (rest q)
      by (Stepped.Refusal number left) rest = refl

  same_row : (marks : List Vector3) (terms : Terms) (budget : ℕ) → rowed (framed s) marks terms budget ≡ rowed (unframed s) marks terms budget
  unfolding rowed unless_refused
  same_row marks terms budget = rw same-refusal (by (or_else (refusal_of_surface (unframed s)) (when (not (sound_terms terms)) 7)))
    where
      by : (n : ℕ) → unless_refused n budget (λ left. in_turn (framed s) 0 marks (record { terms = terms; left = left })) ≡ unless_refused n budget (λ left. in_turn (unframed s) 0 marks (record { terms = terms; left = left }))
      by zero = same-turns 0 marks _
      by (suc n) = refl

  same-evaluation : (x y : Float) → evaluated (framed s) x y ≡ evaluated (unframed s) x y
  unfolding evaluated evaluated_by
  same-evaluation x y = rw same-checks (by (checked (unframed s)))
    where
      by : (c : Checked) → evaluated_by (framed s) c x y ≡ evaluated_by (unframed s) c x y
      by (Check.Refusal n) = refl
      by (Check.Scale m) = rw same-jets

  same_edges : (tolerance : Float) → singular (framed s) tolerance ≡ singular (unframed s) tolerance
  unfolding singular singular_by tested edges_of
  same_edges tolerance = rw same-checks (by (checked (unframed s)))
    where
      by : (c : Checked) → singular_by (framed s) c tolerance ≡ singular_by (unframed s) c tolerance
      by (Check.Refusal n) = refl
      by (Check.Scale m) = rw same-jets

  same_rows : (coordinates : List Float) (numbers bytes : ℕ) (terms : Terms) (budget : ℕ) → row_into (framed s) coordinates numbers bytes terms budget ≡ row_into (unframed s) coordinates numbers bytes terms budget
  unfolding row_into unless_refused
  same_rows coordinates numbers bytes terms budget = by (when (misfit (length coordinates) numbers bytes) 11)
    where
      by : (n : ℕ) → unless_refused n budget (rowed (framed s) (marks_of coordinates) terms) ≡ unless_refused n budget (rowed (unframed s) (marks_of coordinates) terms)
      by zero = same_row (marks_of coordinates) terms budget
      by (suc n) = refl

  -- a job on a surface
  abbrev job_on : Surface → Limits → List Vector3 → Job
  job_on s limits marks = record { surface = s; terms = limits; marks = marks }

  -- every call that takes a surface
  pub record Same : Type 0 where
    pub evaluates : (x y : Float) → evaluated (framed s) x y ≡ evaluated (unframed s) x y
    pub places : (mark : Vector3) (terms : Terms) (budget : ℕ) → placed (framed s) mark terms budget ≡ placed (unframed s) mark terms budget
    pub derives : (u v : Float) (d : Vector3) (budget : ℕ) → derived (framed s) u v d budget ≡ derived (unframed s) u v d budget
    pub tells : (tolerance : Float) → singular (framed s) tolerance ≡ singular (unframed s) tolerance
    pub rows : (coordinates : List Float) (numbers bytes : ℕ) (terms : Terms) (budget : ℕ) → row_into (framed s) coordinates numbers bytes terms budget ≡ row_into (unframed s) coordinates numbers bytes terms budget
    pub prints : (limits : Limits) (marks : List Vector3) → job_lines (job_on (framed s) limits marks) ≡ job_lines (job_on (unframed s) limits marks)

  pub window-whole : Same
  unfolding derived job_lines
  window-whole = record {
    evaluates = same-evaluation;
    places = same-placing;
    derives = λ u v d budget. onto _ _ _ (λ m. rw same-jets);
    tells = same_edges;
    rows = same_rows;
    prints = λ limits marks. rw (same_row marks (search_terms limits.tolerance) limits.budget);
  }

  -- the grid without a window is the source's own
  pub whole-grid : refusal_of_surface (unframed s) ≡ 0 → (values_u (unframed s) ≡ source_values (axis_u s)) × (values_v (unframed s) ≡ source_values (axis_v s))
  unfolding window_in
  whole-grid ok = let a = accepted-surface (unframed s) ok in (source-values (axis_u s) a.knots-u, source-values (axis_v s) a.knots-v)
