-- The parts of an inversion put together: the grid and the search after it, and the hint's run before both. Assumes nothing.
use mathlib.Core.Path.{◌≡◌, sym, ap, ◌∙◌}
use mathlib.Core.Bool.{Bool, true, false}
use mathlib.Core.List.{List}
use Prim.Native.Nat.{ℕ, ◌+◌, ◌-◌, ◌≤◌}
use native.Mathlib.Omega.{arith}
use lib.Ieee.{Float}
use borrow.Author.Tests.{ne_eqb}
use Rattle.vector3.specs.declared.Vector3.{Vector3}
use Rattle.price.specs.Price.{Priced, refused, answered, price, after, mapped, ◌then◌, spent, spend}
use Rattle.price.specs.PriceLaws.{after-price, after_none, after-after, then-least, was-paid, was-spent}
use Rattle.domain.specs.declared.Domain.{Domain}
use Rattle.surface.specs.Surface.{Surface, evaluate_by, window_of}
use Rattle.newton.specs.declared.End.{End}
use Rattle.newton.specs.declared.Finished.{Finished}
use Rattle.newton.specs.declared.Outcome.{Outcome}
use Rattle.newton.specs.declared.Outcome.TheVariants.{Ended, Refused, Spent}
use Rattle.newton.specs.Run.{finished, run, outcome_of}
use Rattle.newton.specs.OutcomeLaws.{spent-run, refused-run, ended-run}
use Rattle.grid.specs.declared.Values.{Values}
use Rattle.shortlist.specs.declared.Start.{Start}
use Rattle.seeds.specs.declared.Walked.{Walked}
use Rattle.grid.specs.Axis.{listed}
use Rattle.window.specs.Values.{values_u, values_v}
use Rattle.shortlist.specs.FirstSix.{starts_of}
use Rattle.seeds.specs.Grid.{survey}
use Rattle.shortlist.specs.Insert.{starts_in}
use Rattle.seeds.specs.Walk.{walked_of}
use Rattle.inversion.specs.declared.Hint.{Hint}
use Rattle.inversion.specs.declared.Choice.{Choice}
use Rattle.inversion.specs.declared.Best.{Best}
use Rattle.inversion.specs.declared.Best.TheVariants.{Nothing, At}
use Rattle.inversion.specs.declared.Answer.{Answer}
use Rattle.inversion.specs.Inversion.{of_hint, within, searched, explored, explored_on, unless_close, hinted, plain_steps, inversion_by, answer_of}
use Rattle.inversion.proofs.SearchSteps.{chosen-told, refusal-told, too-dear}

-- ---- the grid, and the search after it

abbrev starts_on : Surface → Float → Vector3 → Priced (List Start)
starts_on s m mark = mapped starts_of (survey mark (evaluate_by s m) (values_u s) (values_v s))

-- a walk of the grid with what k units leave of a budget
pub record Walks (s : Surface) (m : Float) (mark : Vector3) (k budget : ℕ) (w : Walked) : Type 0 where
  pub within : k ≤ budget
  pub told : walked_of w ≡ spend (budget - k) (starts_on s m mark)

pub walks : (s : Surface) (m : Float) (mark : Vector3) (k budget : ℕ) (w : Walked) (us vs : Values) → listed us ≡ values_u s → listed vs ≡ values_v s → k ≤ budget
    → walked_of w ≡ spend (budget - k) (mapped starts_of (survey mark (evaluate_by s m) (listed us) (listed vs))) → Walks s m mark k budget w
walks s m mark k budget w us vs p q h e = record { within = h; told = rw (p, q) at e }

module _ {s : Surface} {m : Float} {mark : Vector3} {k budget : ℕ} {w : Walked} (h : Walks s m mark k budget w) where
  all_seen : w.refusal ≡ 0 → (starts_on s m mark ≡ answered (starts_in w.starts) w.taken) × (w.taken ≤ budget - k)
  unfolding walked_of
  all_seen z = was-paid (budget - k) _ (answered (starts_in w.starts) w.taken) (sym (simp z) ∙ h.told)

  one-refused : w.refusal ≡ 9 → (starts_on s m mark ≡ refused w.taken) × (w.taken ≤ budget - k)
  unfolding walked_of
  one-refused z = was-paid (budget - k) _ (refused w.taken) (sym (simp z) ∙ h.told)

  pub found-fits : w.refusal ≡ 0 → k + w.taken ≤ budget
  found-fits z = omega (arith, h.within, (all_seen z).1)

  pub refused-fits : w.refusal ≡ 9 → k + w.taken ≤ budget
  refused-fits z = omega (arith, h.within, (one-refused z).1)

  module _ (best : Best) (again : ℕ) where
    abbrev steps : Priced Choice
    steps = after k (explored_on s m mark best again)

    pub explore-found : (d : Domain) → d ≡ window_of s → w.refusal ≡ 0
        → {r : Answer} → r ≡ answer_of (spend budget (after (k + w.taken) (searched d mark (evaluate_by s m) best again 1 (starts_in w.starts)))) → r ≡ answer_of (spend budget steps)
    unfolding explored ◌then◌
    explore-found d g z f = f ∙ rw (g, (all_seen z).0) (ap (λ (p : Priced Choice). answer_of (spend budget p)) (sym (after-after k w.taken _)))

    pub explore-refused : w.refusal ≡ 9 → Answer.Refused (k + w.taken) ≡ answer_of (spend budget steps)
    unfolding explored ◌then◌ after
    explore-refused z = rw (one-refused z).0 (refusal-told budget (k + w.taken) (refused-fits z))

    pub explore-spent : (w.refusal ≡ 0 → ⊥) → (w.refusal ≡ 9 → ⊥) → Answer.Spent ≡ answer_of (spend budget steps)
    unfolding explored walked_of
    explore-spent f g =
        let o : spent ≡ walked_of w = sym (simp (ne_eqb w.refusal 0 f, ne_eqb w.refusal 9 g)) in
        let least = then-least (starts_on s m mark) (searched (window_of s) mark (evaluate_by s m) best again 1) in
        too-dear budget steps (omega (arith, was-spent (budget - k) (starts_on s m mark) (o ∙ h.told), least, after-price k (explored_on s m mark best again)))

-- ---- the hint

module _ (s : Surface) (m : Float) (mark : Vector3) (hint : Hint) (tolerance : Float) (budget : ℕ) where
  abbrev answer : Answer
  answer = answer_of (spend budget (inversion_by s m mark hint tolerance))

  pub unhinted : hint ≡ Hint.Nothing → {r : Answer} → r ≡ answer_of (spend budget (after 0 (explored_on s m mark Nothing 0))) → r ≡ answer
  unfolding inversion_by plain_steps
  unhinted f e = e ∙ rw (f, after_none (explored_on s m mark Nothing 0))

  module _ (d : Domain) (g : d ≡ window_of s) (u v : Float) (f : hint ≡ Hint.At u v) {o : Outcome} (e : o ≡ outcome_of (spend budget (finished d mark (evaluate_by s m) u v))) where
    abbrev after_run : Priced End → Priced Choice
    after_run r = hinted (window_of s) mark (evaluate_by s m) (values_u s) (values_v s) tolerance r

    by-run : inversion_by s m mark hint tolerance ≡ after_run (run d mark (evaluate_by s m) u v)
    unfolding inversion_by plain_steps
    by-run = rw (f, g)

    -- the evaluations of the hint's run are in the price
    hinted-least : (r : Priced End) → price r ≤ price (after_run r)
    unfolding hinted unless_close
    hinted-least (refused k) = omega arith
    hinted-least (answered a k) = by (within a tolerance)
      where
        by : (t : Bool) → k ≤ price (unless_close (window_of s) mark (evaluate_by s m) (values_u s) (values_v s) t a k)
        by true = omega arith
        by false = omega (arith, after-price k (explored_on s m mark (At (of_hint a)) k))

    pub hint-spent : o ≡ Spent → Answer.Spent ≡ answer
    hint-spent z = too-dear budget _ (rw by-run (omega (arith, spent-run d mark (evaluate_by s m) u v budget e z, hinted-least (run d mark (evaluate_by s m) u v))))

    pub hint-refused : (k : ℕ) → o ≡ Refused k → Answer.Refused k ≡ answer
    unfolding hinted
    hint-refused k z =
        let p = refused-run d mark (evaluate_by s m) u v budget e k z in
        rw (by-run, p.0) (refusal-told budget k p.1)

    module _ (a : Finished) (k : ℕ) (ended : o ≡ Ended a k) where
      pub hint-fits : k ≤ budget
      hint-fits = (ended-run d mark (evaluate_by s m) u v budget e a k ended).1

      weighed : inversion_by s m mark hint tolerance ≡ unless_close (window_of s) mark (evaluate_by s m) (values_u s) (values_v s) (within a.end tolerance) a.end k
      unfolding hinted
      weighed = by-run ∙ rw (ended-run d mark (evaluate_by s m) u v budget e a k ended).0

      pub hint-close : within a.end tolerance ≡ true → Answer.Chosen (of_hint a.end) k ≡ answer
      unfolding unless_close
      hint-close t = rw (weighed, t) (chosen-told budget (of_hint a.end) k hint-fits)

      pub hint-far : within a.end tolerance ≡ false → {r : Answer} → r ≡ answer_of (spend budget (after k (explored_on s m mark (At (of_hint a.end)) k))) → r ≡ answer
      unfolding unless_close
      hint-far t h = h ∙ rw (weighed, t)
