-- A round by what a budget makes of it, and the rounds one after the other. Assumes nothing.
use mathlib.Core.Path.{◌≡◌, refl, sym, ap, ◌∙◌}
use mathlib.Core.Bool.{Bool, true, false, cond, ◌||◌}
use Prim.Native.Nat.{ℕ, suc, ◌+◌, ◌-◌, ◌≤◌, ◌<◌}
use native.Mathlib.Numerals.{add-one}
use native.Mathlib.Omega.{arith}
use lib.Dec.{leb}
use lib.Ieee.{Float}
use borrow.Author.Tests.{le-leb, lt-leb, leb-true, leb-false}
use Rattle.vector3.specs.declared.Vector3.{Vector3}
use Rattle.price.specs.Price.{Priced, refused, answered, spend}
use Rattle.patch.specs.declared.Jet.{Jet}
use Rattle.patch.specs.declared.Evaluated.{Evaluated}
use Rattle.patch.specs.declared.Evaluated.TheVariants as Eval
use Rattle.domain.specs.declared.Domain.{Domain}
use Rattle.newton.specs.declared.Measured.{Measured}
use Rattle.newton.specs.declared.Ending.{Ending}
use Rattle.newton.specs.declared.Finished.{Finished}
use Rattle.newton.specs.declared.Held.{Held}
use Rattle.newton.specs.declared.Plan.{Plan}
use Rattle.newton.specs.declared.Plan.TheVariants.{Halt, Probe}
use Rattle.newton.specs.declared.Verdict.{Verdict}
use Rattle.newton.specs.declared.Verdict.TheVariants.{Further, Last, Onward}
use Rattle.newton.specs.declared.Outcome.{Outcome}
use Rattle.newton.specs.declared.Outcome.TheVariants.{Ended, Refused, Spent}
use Rattle.newton.specs.declared.Turn.{Turn}
use Rattle.newton.specs.declared.Turn.TheVariants.{Over, Onto}
use Rattle.newton.specs.Run.{plan, judge, Round, over, onto, follow, finish, measured, held, next, settle, weigh, pursue, round, rounds, outcome_of, turn_of}
use Rattle.newton.specs.RunLaws.{rounds-count}
use Rattle.newton.specs.OutcomeLaws.{ended-told, refused-told, short-told}
use Rattle.newton.proofs.RootLaws.{onto-rooted}

-- ---- a round

-- that evaluates with no unit left
module _ (d : Domain) (mark : Vector3) (budget n : ℕ) (h : Held) (over-budget : budget < n + 1) where
  settle-spent : (to : Held) (v : Verdict) → Over Spent ≡ turn_of budget n (settle d mark h (n + 1) to v)
  unfolding settle turn_of
  settle-spent to Further = ap Over (short-told budget (answered (finish h.at Ending.Further to.roots) (n + 1)) over-budget)
  settle-spent to Last = ap Over (short-told budget (answered (finish to.at Ending.SmallStep to.roots) (n + 1)) over-budget)
  settle-spent to Onward = simp (lt-leb (suc n) budget (omega arith))

  weigh-spent : (c : Bool) (u v : Float) (e : Evaluated) → Over Spent ≡ turn_of budget n (weigh d mark h (n + 1) c u v e)
  unfolding weigh turn_of
  weigh-spent c u v Eval.Refused = ap Over (short-told budget (refused (n + 1)) over-budget)
  weigh-spent c u v (Eval.Found j) = settle-spent (next mark h c u v j) _

module _ (d : Domain) (mark : Vector3) (eval : Float → Float → Evaluated) (budget : ℕ) (h : Held) (n : ℕ) (within : n ≤ budget) where
  abbrev pub turn : Turn
  turn = turn_of budget n (round d mark eval n h)

  module _ {p : Plan} (w : p ≡ plan d mark h) where
    planned : round d mark eval n h ≡ pursue d mark eval h n p
    unfolding round
    planned = rw w

    pub halted : (how : Ending) → p ≡ Halt how → {o : Outcome} → o ≡ Ended (finish h.at how h.roots) n → Over o ≡ turn
    unfolding pursue turn_of
    halted how f e = rw (planned, f) (ap Over (e ∙ ended-told budget (finish h.at how h.roots) n within))

    module _ (c : Bool) (u v : Float) (f : p ≡ Probe c u v) where
      probed : round d mark eval n h ≡ weigh d mark h (n + 1) c u v (eval u v)
      unfolding pursue
      probed = planned ∙ rw (f, add-one n)

      pub unpaid : n ≡ budget → Over Spent ≡ turn
      unpaid z = rw probed (weigh-spent d mark budget n h (omega arith) c u v (eval u v))

      module _ (unit : n ≡ budget → ⊥) {a : Evaluated} (g : a ≡ eval u v) where
        pub unfound : a ≡ Eval.Refused → Over (Refused (n + 1)) ≡ turn
        unfolding weigh turn_of
        unfound z = rw (probed, ← g, z) (ap Over (refused-told budget (n + 1) (omega arith)))

        module _ (j : Jet) (z : a ≡ Eval.Found j) (m : Measured) (l : m ≡ measured mark j h.roots) where
          abbrev to : Held
          to = held m (h.nudged || c) u v j

          module _ {t : Verdict} (s : t ≡ judge d h.at c to.at) where
            judged : round d mark eval n h ≡ settle d mark h (n + 1) to t
            unfolding weigh
            judged = probed ∙ rw (← g, z, s, l)

            pub further : t ≡ Further → {o : Outcome} → o ≡ Ended (finish h.at Ending.Further m.roots) (n + 1) → Over o ≡ turn
            unfolding settle turn_of
            further q e = rw (judged, q) (ap Over (e ∙ ended-told budget (finish h.at Ending.Further m.roots) (n + 1) (omega arith)))

            pub last : t ≡ Last → {o : Outcome} → o ≡ Ended (finish to.at Ending.SmallStep m.roots) (n + 1) → Over o ≡ turn
            unfolding settle turn_of
            last q e = rw (judged, q) (ap Over (e ∙ ended-told budget (finish to.at Ending.SmallStep m.roots) (n + 1) (omega arith)))

            pub onward : t ≡ Onward → Onto to ≡ turn
            unfolding settle turn_of
            onward q = rw (judged, q, le-leb (suc n) budget (omega arith))

-- ---- the rounds

module _ (d : Domain) (mark : Vector3) (eval : Float → Float → Evaluated) (budget : ℕ) where
  -- what holds of the run r as it holds h after n evaluations
  abbrev pub Kept : Priced Finished → Held → ℕ → Type 0
  Kept r h n = (n ≤ 33) × (n ≤ budget) × (h.roots ≡ n) × (r ≡ rounds d mark eval (33 - n) n h)

  over-spend : (k n : ℕ) (q : Round) (o : Outcome) → Over o ≡ turn_of budget n q → o ≡ outcome_of (spend budget (follow (rounds d mark eval k (n + 1)) q))
  unfolding turn_of follow
  over-spend k n (over r) o e = cc
  over-spend k n (onto h) o e = by (leb (suc n) budget) refl e
    where
      by : (t : Bool) → leb (suc n) budget ≡ t → Over o ≡ cond t (Onto h) (Over Spent) → o ≡ outcome_of (spend budget (rounds d mark eval k (n + 1) h))
      by true q p = absurd (let z : ◌≡◌ {A = ℕ} 0 1 = cc in omega arith)
      by false q p =
          let s : o ≡ Spent = cc in
          let above = (rounds-count d mark eval k (n + 1) h).above in
          s ∙ short-told budget _ (omega (arith, leb-false (suc n) budget q))

  onto-goes : (n : ℕ) (q : Round) (h : Held) → Onto h ≡ turn_of budget n q → (n < budget) × (q ≡ onto h)
  unfolding turn_of
  onto-goes n (over r) h e = absurd (let z : ◌≡◌ {A = ℕ} 0 1 = cc in omega arith)
  onto-goes n (onto g) h e = by (leb (suc n) budget) refl e
    where
      by : (t : Bool) → leb (suc n) budget ≡ t → Onto h ≡ cond t (Onto g) (Over Spent) → (n < budget) × (onto g ≡ onto h)
      by true q p = let s : g ≡ h = cc in (omega (arith, leb-true (suc n) budget q), ap onto s)
      by false q p = absurd (let z : ◌≡◌ {A = ℕ} 0 1 = cc in omega arith)

  module _ (r : Priced Finished) (h : Held) (n : ℕ) (kept : Kept r h n) where
    pub full : 33 ≤ n → {o : Outcome} → o ≡ Ended (finish h.at Ending.AllRounds h.roots) n → o ≡ outcome_of (spend budget r)
    unfolding rounds
    full z e =
        let none : 33 - n ≡ 0 = omega arith in
        e ∙ rw (kept.3, none) (ended-told budget (finish h.at Ending.AllRounds h.roots) n kept.1)

    module _ (short : n < 33) {t : Turn} (w : t ≡ turn d mark eval budget h n kept.1) where
      more : r ≡ follow (rounds d mark eval (33 - (n + 1)) (n + 1)) (round d mark eval n h)
      unfolding rounds
      more =
          let one : 33 - n ≡ suc (33 - (n + 1)) = omega arith in
          kept.3 ∙ rw one (rw (add-one n))

      pub ended : (o : Outcome) → t ≡ Over o → o ≡ outcome_of (spend budget r)
      ended o f = over-spend _ n _ o (sym f ∙ w) ∙ ap (λ (q : Priced Finished). outcome_of (spend budget q)) (sym more)

      pub goes : (to : Held) → t ≡ Onto to → Kept r to (n + 1)
      unfolding follow
      goes to f =
          let on = onto-goes n _ to (sym f ∙ w) in
          (omega arith, omega (arith, on.0), rw (add-one n) (onto-rooted d mark eval n h to kept.2 on.1), more ∙ rw on.1)
