-- A run takes one distance root for each evaluation, for every evaluation function. Assumes nothing.
use Rattle.std.specs.Prelude.{ℕ, suc, ◌≡◌, refl, length, Float}
use Rattle.std.proofs.Common.{ap}
use Rattle.vector3.specs.declared.Vector3.{Vector3}
use Rattle.price.specs.Price.{Priced, spend}
use Rattle.price.specs.PriceLaws.{Answers}
use Rattle.patch.specs.declared.Evaluated.{Evaluated}
use Rattle.domain.specs.declared.Domain.{Domain}
use Rattle.newton.specs.declared.Finished.{Finished}
use Rattle.newton.specs.declared.Held.{Held}
use Rattle.newton.specs.declared.Outcome.TheVariants.{Ended}
use Rattle.newton.specs.Run.{onto, round, finished, outcome_of}
use Rattle.newton.specs.RunLaws.{halts, refuses, returns, lands, goes, Carries, by-round, by-run}
use Rattle.newton.specs.OutcomeLaws.{ended-back}
use Rattle.newton.specs.Visits.{visits}
use Rattle.newton.proofs.VisitLaws.{finished-evaluates}

module _ (d : Domain) (mark : Vector3) (eval : Float → Float → Evaluated) where
  -- with k rounds to go after n evaluations
  abbrev Rooted : ℕ → ℕ → Held → Type 0
  Rooted k n h = h.roots ≡ n

  abbrev AllRooted : Priced Finished → Type 0
  AllRooted r = Answers (λ f n. f.roots ≡ n) r

  round-rooted : Carries d mark eval Rooted AllRooted
  round-rooted k n h s p f l r e (halts how) = s
  round-rooted k n h s p f l r e (refuses c a b) = tt
  round-rooted k n h s p f l r e (returns c a b j g q) = ap suc s
  round-rooted k n h s p f l r e (lands c a b j g q) = ap suc s
  round-rooted k n h s p f l r e (goes c a b j g q) = ap suc s

  -- a round that goes on took one root
  pub onto-rooted : (n : ℕ) (h to : Held) → h.roots ≡ n → round d mark eval n h ≡ onto to → to.roots ≡ suc n
  onto-rooted n h to s e = rw e at (by-round d mark eval Rooted AllRooted round-rooted 0 n h s)

  -- "A run that isn't refused takes one distance root for each evaluation and no other": the count that is answered with an end, whatever the budget, is that of the evaluations, which are those of the pairs that the run visits
  pub roots-are-evaluations : (u v : Float) (budget : ℕ) (f : Finished) (n : ℕ) → outcome_of (spend budget (finished d mark eval u v)) ≡ Ended f n → (f.roots ≡ n) × (n ≡ length (visits d mark eval u v))
  roots-are-evaluations u v budget f n e =
      let ended = (ended-back budget (finished d mark eval u v) refl f n e).0 in
      let made = rw ended at (finished-evaluates d mark eval u v) in
      (rw ended at (by-run d mark eval Rooted AllRooted (λ n h s. s) round-rooted u v (λ k. tt) (λ j p. refl)), made.count)
