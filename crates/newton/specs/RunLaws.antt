-- Laws of a run that hold for every evaluation function. Assumes nothing.
use Rattle.std.specs.Prelude.{◌≡◌, Bool, cond, ◌&&◌, ◌||◌, Float}
use Rattle.std.proofs.Math.Path.{refl}
use Rattle.std.proofs.Math.Bool.{true, false}
use Rattle.std.proofs.Common.{true≢false}
use Prim.Native.Nat.{ℕ, zero, suc, ◌+◌, ◌≤◌}
use native.Mathlib.Omega.{arith}
use Rattle.std.specs.Float.Ieee.{lt, le, eq, is_nan}
use Rattle.float64.specs.Operators.{◌⊕◌}
use Rattle.float64.specs.Functions.{clamp}
use Rattle.float64.specs.Order.{le_refl, le_trans, le_not_lt, le→number}
use Rattle.vector3.specs.declared.Vector3.{Vector3}
use Rattle.price.specs.Price.{Priced, refused, answered, price}
use Rattle.price.specs.PriceLaws.{Between, Answers, answers-map, mapped-price, mapped-answers}
use Rattle.patch.specs.declared.Jet.{Jet}
use Rattle.patch.specs.declared.Evaluated.{Evaluated}
use Rattle.patch.specs.declared.Evaluated.TheVariants as Eval
use Rattle.patch.specs.Patch.{from_mark}
use Rattle.domain.specs.declared.Interval.{Interval}
use Rattle.domain.specs.declared.Domain.{Domain}
use Rattle.newton.specs.declared.Iterate.{Iterate}
use Rattle.newton.specs.declared.Ending.{Ending}
use Rattle.newton.specs.declared.Ending.TheVariants.{Unchanged, Further, SmallStep, SecondSingular, AllRounds}
use Rattle.newton.specs.declared.End.{End}
use Rattle.newton.specs.declared.Finished.{Finished}
use Rattle.newton.specs.declared.Held.{Held}
use Rattle.newton.specs.declared.Step.{Step}
use Rattle.newton.specs.declared.Step.TheVariants.{Singular, By}
use Rattle.newton.specs.declared.Plan.{Plan}
use Rattle.newton.specs.declared.Plan.TheVariants.{Halt, Probe}
use Rattle.newton.specs.declared.Verdict.{Verdict}
use Rattle.newton.specs.Run.{step_of, clamp_into, inward, is_small_step, nudged, moved, plan_by, plan, judge, Round, over, onto, follow, finish, begun, next, settle, weigh, pursue, round, rounds, started, finished, run, nudges_on, nudges_in, nudges_from, nudges}

-- what holds of a run's end, where it has one
abbrev pub Ends : (End → Type 0) → Priced End → Type 0
Ends P r = Answers (λ e n. P e) r

-- the same with its roots beside it
abbrev Finishes : (End → Type 0) → Priced Finished → Type 0
Finishes P r = Answers (λ f n. P f.end) r

-- on an axis without the flag, in the interval
abbrev pub Inside : Interval → Float → Type 0
Inside i t = i.periodic ≡ false → le i.low i.high ≡ true → (le i.low t ≡ true) × (le t i.high ≡ true)

clamp-inside : (t low high : Float) (below above : Bool) → lt t low ≡ below → lt high t ≡ above → is_nan (cond below low (cond above high t)) ≡ false → le low high ≡ true
    → (le low (cond below low (cond above high t)) ≡ true) × (le (cond below low (cond above high t)) high ≡ true)
clamp-inside t low high true above p q number h = (le_refl low number, h)
clamp-inside t low high false true p q number h = (h, le_refl high number)
clamp-inside t low high false false p q number h =
    let ends = le→number low high h in
    (simp (le_not_lt low t ends.0 number, p), simp (le_not_lt t high number ends.1, q))

clamped-inside : (i : Interval) (t : Float) → is_nan (clamp_into i t) ≡ false → Inside i (clamp_into i t)
unfolding clamp_into clamp
clamped-inside i t number flag h =
    rw flag (clamp-inside t i.low i.high (lt t i.low) (lt i.high t) refl refl (rw flag at number) h)

-- ---- a verdict, read back

-- of a nudge or not, further or not, by a small move or not
abbrev pub Judged : Verdict → Bool → Bool → Bool → Type 0
Judged Verdict.Further c further small = (c ≡ false) × (further ≡ true)
Judged Verdict.Last c further small = (c ≡ false) × (further ≡ false) × (small ≡ true)
Judged Verdict.Onward c further small = c ≡ false → (further ≡ false) × (small ≡ false)

pub judge-told : (d : Domain) (from : Iterate) (c : Bool) (to : Iterate) → Judged (judge d from c to) c (lt from.distance to.distance) (is_small_step d from to)
unfolding judge
judge-told d from true to = λ n. absurd (true≢false n)
judge-told d from false to = by (lt from.distance to.distance) (is_small_step d from to)
  where
    by : (f s : Bool) → Judged (cond f Verdict.Further (cond s Verdict.Last Verdict.Onward)) false f s
    by true s = (refl, refl)
    by false true = (refl, refl, refl)
    by false false = λ _. (refl, refl)

module _ (d : Domain) (mark : Vector3) (eval : Float → Float → Evaluated) where
  -- an evaluated pair, made from another by `clamp_into`, with its distance
  pub record Reached (e : Iterate) : Type 0 where
    pub jet : Jet
    pub found : eval e.u e.v ≡ Eval.Found jet
    pub distance : e.distance ≡ from_mark mark jet
    pub from_u : Float
    pub from_v : Float
    pub clamped_u : e.u ≡ clamp_into d.u from_u
    pub clamped_v : e.v ≡ clamp_into d.v from_v

  -- ---- what a round can do

  abbrev pub target_u : Held → Float → Float
  target_u h s = clamp_into d.u (h.at.u ⊕ s)

  abbrev pub target_v : Held → Float → Float
  target_v h t = clamp_into d.v (h.at.v ⊕ t)

  -- whether a step leads back to the pair
  abbrev pub stands : Held → Float → Float → Bool
  stands h s t = eq (target_u h s) h.at.u && eq (target_v h t) h.at.v

  pub data Planned (h : Held) : Plan → Type 0 where
    settled : (s t : Float) → step_of mark h.jet ≡ By s t → stands h s t ≡ true → Planned h (Halt Unchanged)
    stuck : step_of mark h.jet ≡ Singular → h.nudged ≡ true → Planned h (Halt SecondSingular)
    steps : (s t : Float) → step_of mark h.jet ≡ By s t → stands h s t ≡ false → Planned h (Probe false (target_u h s) (target_v h t))
    nudge : step_of mark h.jet ≡ Singular → h.nudged ≡ false → Planned h (Probe true (clamp_into d.u (inward d.u h.at.u)) (clamp_into d.v (inward d.v h.at.v)))

  plan-planned : (h : Held) → Planned h (plan d mark h)
  unfolding plan plan_by nudged moved
  plan-planned h = by (step_of mark h.jet) refl
    where
      singular : step_of mark h.jet ≡ Singular → (b : Bool) → h.nudged ≡ b → Planned h (nudged d b h.at)
      singular e true f = stuck e f
      singular e false f = nudge e f

      regular : (s t : Float) → step_of mark h.jet ≡ By s t → (b : Bool) → stands h s t ≡ b → Planned h (cond b (Halt Unchanged) (Probe false (target_u h s) (target_v h t)))
      regular s t e true f = settled s t e f
      regular s t e false f = steps s t e f

      by : (s : Step) → step_of mark h.jet ≡ s → Planned h (plan_by d h s)
      by Singular e = singular e h.nudged refl
      by (By s t) e = regular s t e (stands h s t) refl

  -- where an evaluation is made, it is made at a clamped pair
  abbrev pub Clamped : Plan → Type 0
  Clamped (Halt how) = Unit {0}
  Clamped (Probe c a b) = (x : Float) × (y : Float) × (a ≡ clamp_into d.u x) × (b ≡ clamp_into d.v y)

  pub planned-clamped : {h : Held} {p : Plan} → Planned h p → Clamped p
  planned-clamped (settled s t e f) = tt
  planned-clamped (stuck e f) = tt
  planned-clamped {h} (steps s t e f) = (h.at.u ⊕ s, h.at.v ⊕ t, refl, refl)
  planned-clamped {h} (nudge e f) = (inward d.u h.at.u, inward d.v h.at.v, refl, refl)

  -- ---- what a round can come to

  abbrev pub judged : Held → Bool → Float → Float → Jet → Verdict
  judged h c a b j = judge d h.at c (next mark h c a b j).at

  -- after n evaluations
  pub data Rounded (n : ℕ) (h : Held) : Plan → Round → Type 0 where
    halts : (how : Ending) → Rounded n h (Halt how) (over (answered (finish h.at how h.roots) n))
    refuses : (c : Bool) (a b : Float) → Rounded n h (Probe c a b) (over (refused (suc n)))
    returns : (c : Bool) (a b : Float) (j : Jet) → eval a b ≡ Eval.Found j → judged h c a b j ≡ Verdict.Further
        → Rounded n h (Probe c a b) (over (answered (finish h.at Further (suc h.roots)) (suc n)))
    lands : (c : Bool) (a b : Float) (j : Jet) → eval a b ≡ Eval.Found j → judged h c a b j ≡ Verdict.Last
        → Rounded n h (Probe c a b) (over (answered (finish (next mark h c a b j).at SmallStep (suc h.roots)) (suc n)))
    goes : (c : Bool) (a b : Float) (j : Jet) → eval a b ≡ Eval.Found j → judged h c a b j ≡ Verdict.Onward
        → Rounded n h (Probe c a b) (onto (next mark h c a b j))

  module _ (n : ℕ) (h : Held) where
    found-rounded : (c : Bool) (a b : Float) (j : Jet) → eval a b ≡ Eval.Found j → (w : Verdict) → judged h c a b j ≡ w
        → Rounded n h (Probe c a b) (settle d mark h (suc n) (next mark h c a b j) w)
    unfolding settle
    found-rounded c a b j p Verdict.Further q = returns c a b j p q
    found-rounded c a b j p Verdict.Last q = lands c a b j p q
    found-rounded c a b j p Verdict.Onward q = goes c a b j p q

    weigh-rounded : (c : Bool) (a b : Float) (r : Evaluated) → eval a b ≡ r → Rounded n h (Probe c a b) (weigh d mark h (suc n) c a b r)
    unfolding weigh
    weigh-rounded c a b Eval.Refused p = refuses c a b
    weigh-rounded c a b (Eval.Found j) p = found-rounded c a b j p (judged h c a b j) refl

    round-rounded : Rounded n h (plan d mark h) (round d mark eval n h)
    unfolding round pursue
    round-rounded = by (plan d mark h)
      where
        by : (p : Plan) → Rounded n h p (pursue d mark eval h n p)
        by (Halt how) = halts how
        by (Probe c a b) = weigh-rounded c a b (eval a b) refl

  -- Induction over the rounds: S is to hold of what a run holds with k rounds to go after n evaluations, and Q of a run that is over.
  module _ (S : ℕ → ℕ → Held → Type 0) (Q : Priced Finished → Type 0) where
    abbrev pub Next : ℕ → ℕ → Round → Type 0
    Next k n (over r) = Q r
    Next k n (onto h) = S k (suc n) h

    -- a round that starts with S
    abbrev pub Carries : Type 0
    Carries = (k n : ℕ) (h : Held) → S (suc k) n h → (p : Plan) → plan d mark h ≡ p → Planned h p → (r : Round) → round d mark eval n h ≡ r → Rounded n h p r → Next k n r

    pub by-round : Carries → (k n : ℕ) (h : Held) → S (suc k) n h → Next k n (round d mark eval n h)
    by-round one k n h s = one k n h s _ refl (plan-planned h) _ refl (round-rounded n h)

    follow-next : (rest : Held → Priced Finished) (k n : ℕ) → ((h : Held) → S k (suc n) h → Q (rest h)) → (r : Round) → Next k n r → Q (follow rest r)
    unfolding follow
    follow-next rest k n f (over r) s = s
    follow-next rest k n f (onto h) s = f h s

    module _ (done : (n : ℕ) (h : Held) → S 0 n h → Q (answered (finish h.at AllRounds h.roots) n)) (one : Carries) where
      pub by-rounds : (k n : ℕ) (h : Held) → S k n h → Q (rounds d mark eval k n h)
      unfolding rounds
      by-rounds zero n h s = done n h s
      by-rounds (suc k) n h s = follow-next (rounds d mark eval k (suc n)) k n (by-rounds k (suc n)) _ (by-round one k n h s)

      -- from what a run holds at its clamped start
      pub by-run : (u v : Float) → ((k : ℕ) → Q (refused k)) → ((j : Jet) → eval (clamp_into d.u u) (clamp_into d.v v) ≡ Eval.Found j → S 32 1 (begun mark (clamp_into d.u u) (clamp_into d.v v) j)) → Q (finished d mark eval u v)
      unfolding finished started
      by-run u v none first = by (eval (clamp_into d.u u) (clamp_into d.v v)) refl
        where
          by : (r : Evaluated) → eval (clamp_into d.u u) (clamp_into d.v v) ≡ r → Q (started d mark eval (clamp_into d.u u) (clamp_into d.v v) r)
          by Eval.Refused p = none _
          by (Eval.Found j) p = by-rounds 32 1 _ (first j p)

  -- ---- how many evaluations

  module _ (low high : ℕ) where
    abbrev Counting : ℕ → ℕ → Held → Type 0
    Counting k n h = (low ≤ n) × (n + k ≤ high)

    abbrev Counted : Priced Finished → Type 0
    Counted r = Between low (price r) high

    round-count : Carries Counting Counted
    round-count k n h s p f l r e (halts how) = record { above = omega arith; under = omega arith }
    round-count k n h s p f l r e (refuses c a b) = record { above = omega arith; under = omega arith }
    round-count k n h s p f l r e (returns c a b j g q) = record { above = omega arith; under = omega arith }
    round-count k n h s p f l r e (lands c a b j g q) = record { above = omega arith; under = omega arith }
    round-count k n h s p f l r e (goes c a b j g q) = (omega arith, omega arith)

  pub rounds-count : (k n : ℕ) (h : Held) → Between n (price (rounds d mark eval k n h)) (n + k)
  rounds-count k n h =
      by-rounds (Counting n (n + k)) (Counted n (n + k)) (λ m h s. record { above = omega arith; under = omega arith }) (round-count n (n + k)) k n h (omega arith, omega arith)

  pub finished-count : (u v : Float) → Between 1 (price (finished d mark eval u v)) 33
  unfolding finished started
  finished-count u v = by (eval (clamp_into d.u u) (clamp_into d.v v))
    where
      by : (r : Evaluated) → Between 1 (price (started d mark eval (clamp_into d.u u) (clamp_into d.v v) r)) 33
      by Eval.Refused = record { above = omega arith; under = omega arith }
      by (Eval.Found j) = rounds-count 32 1 _

  pub run-count : (u v : Float) → Between 1 (price (run d mark eval u v)) 33
  unfolding run
  run-count u v = rw (mapped-price (λ (f : Finished). f.end) (finished d mark eval u v)) (finished-count u v)

  -- ---- where a run ends

  reached : (c : Bool) (a b : Float) → Clamped (Probe c a b) → (j : Jet) → eval a b ≡ Eval.Found j → Reached (begun mark a b j).at
  reached c a b l j p = record { jet = j; found = p; distance = refl; from_u = l.0; from_v = l.1; clamped_u = l.2; clamped_v = l.3 }

  start-reached : (u v : Float) (j : Jet) → eval (clamp_into d.u u) (clamp_into d.v v) ≡ Eval.Found j → Reached (begun mark (clamp_into d.u u) (clamp_into d.v v) j).at
  start-reached u v j p = reached false _ _ (u, v, refl, refl) j p

  abbrev Holding : ℕ → ℕ → Held → Type 0
  Holding k n h = Reached h.at

  round-held : Carries Holding (Finishes (λ e. Reached e.at))
  round-held k n h s p f l r e (halts how) = s
  round-held k n h s p f l r e (refuses c a b) = tt
  round-held k n h s p f l r e (returns c a b j g q) = s
  round-held k n h s p f l r e (lands c a b j g q) = reached c a b (planned-clamped l) j g
  round-held k n h s p f l r e (goes c a b j g q) = reached c a b (planned-clamped l) j g

  -- a run's end is a pair that was evaluated, with that pair's distance
  pub run-held : (u v : Float) → Ends (λ e. Reached e.at) (run d mark eval u v)
  unfolding run
  run-held u v = mapped-answers _ (λ (f : Finished). f.end) (finished d mark eval u v) (by-run Holding (Finishes (λ e. Reached e.at)) (λ n h s. s) round-held u v (λ k. tt) (start-reached u v))

  -- the evaluation refuses a pair with a NaN in it
  module _ (number : (u v : Float) (j : Jet) → eval u v ≡ Eval.Found j → (is_nan u ≡ false) × (is_nan v ≡ false)) where
    reached-inside : (e : Iterate) → Reached e → Inside d.u e.u × Inside d.v e.v
    reached-inside e r =
        let n = number e.u e.v r.jet r.found in
        (rw r.clamped_u (clamped-inside d.u r.from_u (rw r.clamped_u at n).0), rw r.clamped_v (clamped-inside d.v r.from_v (rw r.clamped_v at n).1))

    -- a run's end lies in the domain that it is given, on each axis without the flag
    pub run-in-domain : (u v : Float) → Ends (λ e. Inside d.u e.at.u × Inside d.v e.at.v) (run d mark eval u v)
    run-in-domain u v = answers-map _ _ (λ e n r. reached-inside e.at r) (run d mark eval u v) (run-held u v)

  -- ---- how far a run's end is

  -- no distance is a NaN
  module _ (number : (u v : Float) (j : Jet) → eval u v ≡ Eval.Found j → is_nan (from_mark mark j) ≡ false) where
    reached-number : {e : Iterate} → Reached e → is_nan e.distance ≡ false
    reached-number {e} r = rw r.distance (number e.u e.v r.jet r.found)

    module _ (e₀ : Float) where
      abbrev Descending : ℕ → ℕ → Held → Type 0
      Descending k n h = Reached h.at × (le h.at.distance e₀ ≡ true) × (nudges_in d mark eval k n h ≡ false)

      abbrev Lower : Priced Finished → Type 0
      Lower = Finishes (λ e. le e.at.distance e₀ ≡ true)

      nearer : {a b : Iterate} → Reached a → le a.distance e₀ ≡ true → Reached b → lt a.distance b.distance ≡ false → le b.distance e₀ ≡ true
      nearer {a} {b} r h r' q = le_trans b.distance a.distance e₀ (simp (le_not_lt b.distance a.distance (reached-number r') (reached-number r), q)) h

      flagged : (f c : Bool) → (f || c) ≡ false → c ≡ false
      flagged true c h = absurd (true≢false h)
      flagged false c h = h

      unflagged : (f rest : Bool) → cond f true rest ≡ false → (f ≡ false) × (rest ≡ false)
      unflagged true rest h = absurd (true≢false h)
      unflagged false rest h = (refl, h)

      round-descends : Carries Descending Lower
      unfolding nudges_in nudges_on
      round-descends k n h s p f l r e (halts how) = s.1
      round-descends k n h s p f l r e (refuses c a b) = tt
      round-descends k n h s p f l r e (returns c a b j g q) = s.1
      round-descends k n h s p f l r e (lands c a b j g q) = nearer s.0 s.1 (reached c a b (planned-clamped l) j g) (rw q at (judge-told d h.at c (next mark h c a b j).at)).1
      round-descends k n h s p f l r e (goes c a b j g q) =
          let to = reached c a b (planned-clamped l) j g in
          let still = unflagged (h.nudged || c) _ (rw e at s).2 in
          (to, nearer s.0 s.1 to ((rw q at (judge-told d h.at c (next mark h c a b j).at)) (flagged h.nudged c still.0)).0, still.1)

    -- unless it is nudged, a run's end is no further than its start
    pub run-descends : (u v : Float) (j : Jet) → eval (clamp_into d.u u) (clamp_into d.v v) ≡ Eval.Found j → nudges d mark eval u v ≡ false
        → Ends (λ e. le e.at.distance (from_mark mark j) ≡ true) (run d mark eval u v)
    unfolding run finished started nudges nudges_from
    run-descends u v j p h =
        let e₀ = from_mark mark j in
        rw p
        (mapped-answers _ (λ (f : Finished). f.end) _
        (by-rounds (Descending e₀) (Lower e₀) (λ n h s. s.1) (round-descends e₀) 32 1 _
        (start-reached u v j p, le_refl e₀ (number (clamp_into d.u u) (clamp_into d.v v) j p), rw p at h)))
