-- The start, and what is left to the rounds after it.
use mathlib.Core.Path.{◌≡◌, ◌∙◌}
use mathlib.Core.Bool.{false}
use Prim.Native.Nat.{ℕ}
use native.Mathlib.Omega.{arith}
use lib.Ieee.{Float}
use Rattle.vector3.specs.declared.Vector3.{Vector3}
use Rattle.price.specs.Price.{spend}
use Rattle.patch.specs.declared.Jet.{Jet}
use Rattle.patch.specs.declared.Evaluated.{Evaluated}
use Rattle.patch.specs.declared.Evaluated.TheVariants as Eval
use Rattle.domain.specs.declared.Domain.{Domain}
use Rattle.newton.specs.declared.Measured.{Measured}
use Rattle.newton.specs.declared.Outcome.{Outcome}
use Rattle.newton.specs.declared.Outcome.TheVariants.{Refused, Spent}
use Rattle.newton.specs.Run.{clamp_into, measured, held, rounds, started, finished, outcome_of}
use Rattle.newton.specs.RunLaws.{finished-count}
use Rattle.newton.specs.OutcomeLaws.{short-told, refused-told}
use Rattle.newton.proofs.run.Goals as goal

module _ (d : Domain) (mark : Vector3) (eval : Float → Float → Evaluated) (budget : ℕ) (u v : Float) where
  abbrev answer : Outcome
  answer = outcome_of (spend budget (finished d mark eval u v))

  unstarted : budget ≡ 0 → Spent ≡ answer
  unstarted z = short-told budget (finished d mark eval u v) (omega (arith, (finished-count d mark eval u v).above))

  module _ (x y : Float) {a : Evaluated} (p : x ≡ clamp_into d.u u) (q : y ≡ clamp_into d.v v) (w : a ≡ eval x y) where
    unfound : (budget ≡ 0 → ⊥) → a ≡ Eval.Refused → Refused 1 ≡ answer
    unfolding finished started
    unfound unit f = simp (← p, ← q, ← w, f) (refused-told budget 1 (omega arith))

    begins : (j : Jet) {m : Measured} {o : Outcome} → a ≡ Eval.Found j → m ≡ measured mark j 0 → o ≡ outcome_of (spend budget (rounds d mark eval 32 1 (held m false x y j))) → o ≡ answer
    unfolding finished started
    begins j f l e = e ∙ simp (l, ← p, ← q, ← w, f)

pub returns-then-budget-eq0 : goal.returns-then-budget-eq0
returns-then-budget-eq0 c = unstarted _ _ _ _ _ _ c.if-budget-eq0.true

pub returns-in_default : goal.returns-in_default
returns-in_default c =
    let to = c in
    let at = to in
    unfound _ _ _ _ _ _ _ _ at.clamp_into-u.ensures to.clamp_into-v.ensures to.scaled_jet.ensures at.if-budget-eq0.false c.in_default.is

pub rounds-requires : goal.rounds-requires
rounds-requires c =
    let from = c in
    (from.requires, omega (arith, from.if-budget-eq0.false), simp c.measure-measured.ensures)

pub returns : goal.returns
returns c =
    let is = c in
    let to = is in
    let at = to in
    begins _ _ _ _ _ _ _ _ at.clamp_into-u.ensures to.clamp_into-v.ensures to.scaled_jet.ensures _ is.in-Found.is c.measure-measured.ensures c.rounds.ensures
