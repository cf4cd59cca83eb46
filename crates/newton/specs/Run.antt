-- One run of Gauss-Newton over any evaluation function, split where the evaluation stands: `plan` says where to evaluate, `judge` what came of it. Definitions only.
use Rattle.std.specs.Prelude.{ℕ, zero, suc, Bool, true, false, not, cond, ◌&&◌, ◌||◌, leb, Float}
use Rattle.std.specs.Float.Ieee.{lt, le, eq, neg}
use Rattle.float64.specs.Operators.{◌⊕◌, ◌⊖◌, ◌⊗◌, ◌⊘◌, ½·, 1e-6, 1e-15, 1e-24}
use Rattle.float64.specs.Functions.{is_finite, abs, max, clamp}
use Rattle.vector3.specs.declared.Vector3.{Vector3}
use Rattle.vector3.specs.Vector3.{sub, dot}
use Rattle.price.specs.Price.{Priced, refused, answered, mapped, Paid, spent, paid, spend}
use Rattle.patch.specs.declared.Jet.{Jet}
use Rattle.patch.specs.declared.Evaluated.{Evaluated}
use Rattle.patch.specs.declared.Evaluated.TheVariants as Eval
use Rattle.patch.specs.Patch.{from_mark}
use Rattle.domain.specs.declared.Interval.{Interval}
use Rattle.domain.specs.declared.Domain.{Domain}
use Rattle.newton.specs.declared.Measured.{Measured}
use Rattle.newton.specs.declared.Iterate.{Iterate}
use Rattle.newton.specs.declared.Ending.{Ending}
use Rattle.newton.specs.declared.End.{End}
use Rattle.newton.specs.declared.Finished.{Finished}
use Rattle.newton.specs.declared.Held.{Held}
use Rattle.newton.specs.declared.Step.{Step}
use Rattle.newton.specs.declared.Step.TheVariants.{Singular, By}
use Rattle.newton.specs.declared.Plan.{Plan}
use Rattle.newton.specs.declared.Plan.TheVariants.{Halt, Probe}
use Rattle.newton.specs.declared.Verdict.{Verdict}
use Rattle.newton.specs.declared.Verdict.TheVariants.{Further, Last, Onward}
use Rattle.newton.specs.declared.Outcome.{Outcome}
use Rattle.newton.specs.declared.Outcome.TheVariants.{Ended, Refused, Spent}
use Rattle.newton.specs.declared.Turn.{Turn}
use Rattle.newton.specs.declared.Turn.TheVariants.{Over, Onto}

-- ---- a jet against the mark

-- the step by Cramer's rule; singular where the determinant is not finite or at most 1e-24 of the squared larger of a and c
unfoldable pub solve : Float → Float → Float → Float → Float → Step
solve a b c g0 g1 =
    let det = a ⊗ c ⊖ b ⊗ b in
    let m = max a c in
    cond (not (is_finite det) || le det (1e-24 ⊗ m ⊗ m)) Singular (By (neg (c ⊗ g0 ⊖ b ⊗ g1) ⊘ det) (neg (a ⊗ g1 ⊖ b ⊗ g0) ⊘ det))

unfoldable pub step_of : Vector3 → Jet → Step
step_of mark j =
    let du = j.u in
    let dv = j.v in
    let r = sub j.point mark in
    solve (dot du du) (dot du dv) (dot dv dv) (dot du r) (dot dv r)

-- ---- a pair against the domain that the run is given, a window or the whole

-- clamped, unless the axis is periodic
unfoldable pub clamp_into : Interval → Float → Float
clamp_into i t = cond i.periodic t (clamp t i.low i.high)

-- 1e-6 of the way to the domain's centre
unfoldable pub inward : Interval → Float → Float
inward i t = t ⊕ 1e-6 ⊗ (½· ⊗ (i.low ⊕ i.high) ⊖ t)

abbrev pub width : Interval → Float
width i = i.high ⊖ i.low

-- whether a move is at most 1e-15 of the wider domain
unfoldable pub is_small_step : Domain → Iterate → Iterate → Bool
is_small_step d from to = le (max (abs (to.u ⊖ from.u)) (abs (to.v ⊖ from.v))) (max (width d.u) (width d.v) ⊗ 1e-15)

-- ---- a round, of a run that was nudged before or not

-- singular: nudged the first time, over the second
unfoldable pub nudged : Domain → Bool → Iterate → Plan
nudged d true from = Halt Ending.SecondSingular
nudged d false from = Probe true (clamp_into d.u (inward d.u from.u)) (clamp_into d.v (inward d.v from.v))

-- over where the pair does not change
unfoldable pub moved : Iterate → Float → Float → Plan
moved from u v = cond (eq u from.u && eq v from.v) (Halt Ending.Unchanged) (Probe false u v)

unfoldable pub plan_by : Domain → Held → Step → Plan
plan_by d h Singular = nudged d h.nudged h.at
plan_by d h (By s t) = moved h.at (clamp_into d.u (h.at.u ⊕ s)) (clamp_into d.v (h.at.v ⊕ t))

unfoldable pub plan : Domain → Vector3 → Held → Plan
plan d mark h = plan_by d h (step_of mark h.jet)

-- a nudge is taken with no test of distance; any other point must not be further, and a small step is the last
unfoldable pub judge : Domain → Iterate → Bool → Iterate → Verdict
judge d from true to = Onward
judge d from false to = cond (lt from.distance to.distance) Further (cond (is_small_step d from to) Last Onward)

-- ---- a run: the pair it ends at, with that pair's distance, how it ended, and how many distance roots it took, or refused; and how many evaluations it made

-- what a round comes to: the run is over, or it goes on
pub data Round : Type 0 where
  over : Priced Finished → Round
  onto : Held → Round

unfoldable pub follow : (Held → Priced Finished) → Round → Priced Finished
follow rest (over r) = r
follow rest (onto h) = rest h

abbrev pub finish : Iterate → Ending → ℕ → Finished
finish at how n = record { end = record { at = at; ending = how }; roots = n }

-- a point's distance from the mark: one root, after n of them
abbrev pub measured : Vector3 → Jet → ℕ → Measured
measured mark j n = record { distance = from_mark mark j; roots = suc n }

-- what a run holds at an evaluated pair, with the distance measured there
abbrev pub held : Measured → Bool → Float → Float → Jet → Held
held m b u v j = record { at = record { u = u; v = v; distance = m.distance }; jet = j; nudged = b; roots = m.roots }

-- at its start
abbrev pub begun : Vector3 → Float → Float → Jet → Held
begun mark u v j = held (measured mark j 0) false u v j

-- at the pair after h
abbrev pub next : Vector3 → Held → Bool → Float → Float → Jet → Held
next mark h c u v j = held (measured mark j h.roots) (h.nudged || c) u v j

module _ (d : Domain) (mark : Vector3) where
  -- after n evaluations, the last of them at the pair after h
  unfoldable pub settle : Held → ℕ → Held → Verdict → Round
  settle h n to Further = over (answered (finish h.at Ending.Further to.roots) n)
  settle h n to Last = over (answered (finish to.at Ending.SmallStep to.roots) n)
  settle h n to Onward = onto to

  unfoldable pub weigh : Held → ℕ → Bool → Float → Float → Evaluated → Round
  weigh h n c u v Eval.Refused = over (refused n)
  weigh h n c u v (Eval.Found j) = let to = next mark h c u v j in settle h n to (judge d h.at c to.at)

  module _ (eval : Float → Float → Evaluated) where
    unfoldable pub pursue : Held → ℕ → Plan → Round
    pursue h n (Halt how) = over (answered (finish h.at how h.roots) n)
    pursue h n (Probe c u v) = weigh h (suc n) c u v (eval u v)

    -- a round after n evaluations
    unfoldable pub round : ℕ → Held → Round
    round n h = pursue h n (plan d mark h)

    -- k rounds more
    unfoldable pub rounds : ℕ → ℕ → Held → Priced Finished
    rounds zero n h = answered (finish h.at Ending.AllRounds h.roots) n
    rounds (suc k) n h = follow (rounds k (suc n)) (round n h)

    unfoldable pub started : Float → Float → Evaluated → Priced Finished
    started u v Eval.Refused = refused 1
    started u v (Eval.Found j) = rounds 32 1 (begun mark u v j)

    -- from (u, v)
    unfoldable pub finished : Float → Float → Priced Finished
    finished u v =
        let a = clamp_into d.u u in
        let b = clamp_into d.v v in
        started a b (eval a b)

    -- the same without its roots
    unfoldable pub run : Float → Float → Priced End
    run u v = mapped (λ f. f.end) (finished u v)

    -- ---- whether a run moves to a pair to which it is nudged

    unfoldable pub nudges_on : (Held → Bool) → Round → Bool
    nudges_on rest (over r) = false
    nudges_on rest (onto h) = cond h.nudged true (rest h)

    unfoldable pub nudges_in : ℕ → ℕ → Held → Bool
    nudges_in zero n h = false
    nudges_in (suc k) n h = nudges_on (nudges_in k (suc n)) (round n h)

    unfoldable pub nudges_from : Float → Float → Evaluated → Bool
    nudges_from u v Eval.Refused = false
    nudges_from u v (Eval.Found j) = nudges_in 32 1 (begun mark u v j)

    unfoldable pub nudges : Float → Float → Bool
    nudges u v =
        let a = clamp_into d.u u in
        let b = clamp_into d.v v in
        nudges_from a b (eval a b)

-- ---- the number of an ending, as it is told

unfoldable pub ending_number : Ending → ℕ
ending_number Ending.Unchanged = 0
ending_number Ending.Further = 1
ending_number Ending.SmallStep = 2
ending_number Ending.SecondSingular = 3
ending_number Ending.AllRounds = 4

-- ---- what a budget makes of it, as it is answered

unfoldable pub outcome_of : Paid Finished → Outcome
outcome_of spent = Spent
outcome_of (paid (refused n)) = Refused n
outcome_of (paid (answered f n)) = Ended f n

-- a round after n evaluations: one that goes on takes a unit
unfoldable pub turn_of : ℕ → ℕ → Round → Turn
turn_of budget n (over r) = Over (outcome_of (spend budget r))
turn_of budget n (onto h) = cond (leb (suc n) budget) (Onto h) (Over Spent)
