-- What the name of a run's end tells of the pair that it ends at, for every evaluation function. Assumes nothing.
use Rattle.std.specs.Prelude.{ℕ, suc, ◌+◌, ◌≤◌, ◌≡◌, Bool, true, false, cond, ◌&&◌, ◌||◌, List, [], ◌∷◌, ◌++◌, length, Float}
use Rattle.std.proofs.Math.Path.{refl, sym}
use Rattle.std.proofs.Common.{ap, ◌∙◌, true≢false, append_assoc, arith}
use Rattle.std.proofs.Math.ListN.{length-append}
use Rattle.std.specs.Float.Ieee.{lt, eq}
use Rattle.float64.specs.Operators.{◌⊕◌}
use Rattle.vector3.specs.declared.Vector3.{Vector3}
use Rattle.price.specs.Price.{Priced, answered}
use Rattle.price.specs.PriceLaws.{Answers, mapped-answers}
use Rattle.price.specs.Evaluations.{Pair}
use Rattle.patch.specs.declared.Jet.{Jet}
use Rattle.patch.specs.declared.Evaluated.{Evaluated}
use Rattle.patch.specs.declared.Evaluated.TheVariants.{Found}
use Rattle.patch.specs.Patch.{from_mark}
use Rattle.domain.specs.declared.Domain.{Domain}
use Rattle.newton.specs.declared.Iterate.{Iterate}
use Rattle.newton.specs.declared.Ending.{Ending}
use Rattle.newton.specs.declared.Ending.TheVariants.{Unchanged, Further, SmallStep, SecondSingular, AllRounds}
use Rattle.newton.specs.declared.End.{End}
use Rattle.newton.specs.declared.Finished.{Finished}
use Rattle.newton.specs.declared.Held.{Held}
use Rattle.newton.specs.declared.Step.TheVariants.{Singular, By}
use Rattle.newton.specs.declared.Plan.{Plan}
use Rattle.newton.specs.declared.Plan.TheVariants.{Halt, Probe}
use Rattle.newton.specs.declared.Verdict.{Verdict}
use Rattle.newton.specs.Run.{step_of, clamp_into, inward, is_small_step, plan, judge, onto, finish, begun, next, round, finished, run, nudges_on, nudges_in, nudges_from, nudges, ending_number}
use Rattle.newton.specs.RunLaws.{Reached, Planned, settled, stuck, steps, nudge, halts, refuses, returns, lands, goes, Carries, by-run, Clamped, planned-clamped, judge-told}
use Rattle.newton.specs.Visits.{if_onward, visits_past, visits_on, visits_in, visits_from, visits}

kept : (f c rest n : Bool) → (f || cond (f || c) true rest) ≡ n → ((f || c) || rest) ≡ n
kept true c rest n h = h
kept false true rest n h = h
kept false false rest n h = h

-- 0 to 4
pub ending-digit : (how : Ending) → ending_number how ≤ 4
unfolding ending_number
ending-digit Unchanged = omega arith
ending-digit Further = omega arith
ending-digit SmallStep = omega arith
ending-digit SecondSingular = omega arith
ending-digit AllRounds = omega arith

module _ (d : Domain) (mark : Vector3) (eval : Float → Float → Evaluated) where
  -- the step at the pair p, whose jet is j, is not singular, and leads, clamped, to (u, v)
  pub record Target (j : Jet) (p : Iterate) (u v : Float) : Type 0 where
    pub s : Float
    pub t : Float
    pub regular : step_of mark j ≡ By s t
    pub towards_u : u ≡ clamp_into d.u (p.u ⊕ s)
    pub towards_v : v ≡ clamp_into d.v (p.v ⊕ t)

  abbrev pub pair_of : Iterate → Pair
  pair_of p = (p.u, p.v)

  -- the nudge from the pair p leads, clamped, to (u, v)
  abbrev pub Nudge : Iterate → Float → Float → Type 0
  Nudge p u v = (u ≡ clamp_into d.u (inward d.u p.u)) × (v ≡ clamp_into d.v (inward d.v p.v))

  -- how a run came to p, of the pairs evaluated before it: p is the start; or a step led to it from the last of them, no further and by no small move; or, where that one is singular, the nudge did
  pub data Came (earlier : List Pair) (p : Iterate) : Type 0 where
    starts : earlier ≡ [] → Came earlier p
    stepped : (before : List Pair) (from : Iterate) (r : Reached d mark eval from) → earlier ≡ before ++ (pair_of from ∷ []) → Target r.jet from p.u p.v
        → lt from.distance p.distance ≡ false → is_small_step d from p ≡ false → Came earlier p
    nudged : (before : List Pair) (from : Iterate) (r : Reached d mark eval from) → earlier ≡ before ++ (pair_of from ∷ []) → step_of mark r.jet ≡ Singular → Nudge from p.u p.v → Came earlier p

  -- among these pairs the nudge led from one, which is singular, to the next
  pub record Nudged (ps : List Pair) : Type 0 where
    pub before : List Pair
    pub from : Iterate
    pub to : Iterate
    pub after : List Pair
    pub evaluated : ps ≡ before ++ (pair_of from ∷ pair_of to ∷ after)
    pub reached : Reached d mark eval from
    pub singular : step_of mark reached.jet ≡ Singular
    pub nudge : Nudge from to.u to.v

  -- ---- what holds of a run that ended at p, having evaluated these pairs in this order

  module _ (ps : List Pair) (p : Iterate) where
    -- with a round left, the step at the pair leads, clamped, to an equal pair
    pub record EndsUnchanged : Type 0 where
      pub earlier : List Pair
      pub evaluated : ps ≡ earlier ++ (pair_of p ∷ [])
      pub came : Came earlier p
      pub left : length ps ≤ 32
      pub reached : Reached d mark eval p
      pub u : Float
      pub v : Float
      pub target : Target reached.jet p u v
      pub same : (eq u p.u && eq v p.v) ≡ true

    -- the step leads, clamped, to another pair, which was evaluated and is strictly further
    pub record EndsFurther : Type 0 where
      pub earlier : List Pair
      pub further : Iterate
      pub evaluated : ps ≡ earlier ++ (pair_of p ∷ pair_of further ∷ [])
      pub came : Came earlier p
      pub reached : Reached d mark eval p
      pub found : Reached d mark eval further
      pub target : Target reached.jet p further.u further.v
      pub differs : (eq further.u p.u && eq further.v p.v) ≡ false
      pub beyond : lt p.distance further.distance ≡ true

    -- a step led to the pair from one that was evaluated and is no nearer, and the move is at most 1e-15 of the wider domain
    pub record EndsSmall : Type 0 where
      pub earlier : List Pair
      pub from : Iterate
      pub evaluated : ps ≡ earlier ++ (pair_of from ∷ pair_of p ∷ [])
      pub came : Came earlier from
      pub reached : Reached d mark eval p
      pub found : Reached d mark eval from
      pub target : Target found.jet from p.u p.v
      pub no-nearer : lt from.distance p.distance ≡ false
      pub small : is_small_step d from p ≡ true

    -- with a round left, the determinant test holds at the pair, after a nudge
    pub record EndsSingular : Type 0 where
      pub earlier : List Pair
      pub evaluated : ps ≡ earlier ++ (pair_of p ∷ [])
      pub came : Came earlier p
      pub left : length ps ≤ 32
      pub reached : Reached d mark eval p
      pub singular : step_of mark reached.jet ≡ Singular
      pub before : Nudged ps

    -- 33 evaluations, the last of them at the pair
    pub record EndsRounds : Type 0 where
      pub earlier : List Pair
      pub evaluated : ps ≡ earlier ++ (pair_of p ∷ [])
      pub came : Came earlier p
      pub count : length ps ≡ 33

  -- ---- a run, from (u, v)

  module _ (u v : Float) where
    -- what each name tells of a run that ended at p after n evaluations
    abbrev pub Meant : Ending → Iterate → ℕ → Type 0
    Meant Unchanged p n = EndsUnchanged (visits d mark eval u v) p
    Meant Further p n = EndsFurther (visits d mark eval u v) p
    Meant SmallStep p n = EndsSmall (visits d mark eval u v) p
    Meant SecondSingular p n = EndsSingular (visits d mark eval u v) p × (nudges d mark eval u v ≡ true)
    Meant AllRounds p n = EndsRounds (visits d mark eval u v) p × (n ≡ 33)

    abbrev Means : Priced Finished → Type 0
    Means r = Answers (λ f n. Meant f.end.ending f.end.at n) r

    -- with k rounds to go after n evaluations
    record Going (k n : ℕ) (h : Held) : Type 0 where
      clamped : Clamped d mark eval (Probe false h.at.u h.at.v)
      found : eval h.at.u h.at.v ≡ Found h.jet
      distance : h.at.distance ≡ from_mark mark h.jet
      earlier : List Pair
      evaluated : visits d mark eval u v ≡ earlier ++ (pair_of h.at ∷ visits_in d mark eval k h)
      place : suc (length earlier) ≡ n
      rounds : n + k ≡ 33
      came : Came earlier h.at
      before : h.nudged ≡ true → Nudged (earlier ++ (pair_of h.at ∷ []))
      nudge : (h.nudged || nudges_in d mark eval k n h) ≡ nudges d mark eval u v

    abbrev going-reached : {k n : ℕ} {h : Held} → Going k n h → Reached d mark eval h.at
    going-reached {h = h} g =
        record { jet = h.jet; found = g.found; distance = g.distance; from_u = g.clamped.0; from_v = g.clamped.1; clamped_u = g.clamped.2; clamped_v = g.clamped.3 }

    -- the pairs evaluated up to here are as many as the evaluations
    counted : (ps earlier : List Pair) (p : Pair) (n : ℕ) → ps ≡ earlier ++ (p ∷ []) → suc (length earlier) ≡ n → length ps ≡ n
    counted ps earlier p n e k = rw e (rw length-append (omega (arith, k)))

    done : (n : ℕ) (h : Held) → Going 0 n h → Means (answered (finish h.at AllRounds h.roots) n)
    unfolding visits_in
    done n h g =
        let full : n ≡ 33 = omega (arith, g.rounds) in
        (record { earlier = g.earlier; evaluated = g.evaluated; came = g.came; count = counted _ g.earlier (pair_of h.at) n g.evaluated g.place ∙ full }, full)

    module _ (k n : ℕ) (h : Held) (g : Going (suc k) n h) where
      -- ---- a round that evaluates nothing

      alone : (how : Ending) → plan d mark h ≡ Halt how → visits d mark eval u v ≡ g.earlier ++ (pair_of h.at ∷ [])
      unfolding visits_in visits_on
      alone how f = rw f at g.evaluated

      few : (how : Ending) → plan d mark h ≡ Halt how → length (visits d mark eval u v) ≤ 32
      few how f = omega (arith, counted _ g.earlier (pair_of h.at) n (alone how f) g.place, g.rounds)

      abbrev Halts : Plan → Type 0
      Halts (Halt how) = plan d mark h ≡ Halt how → Meant how h.at n
      Halts (Probe c a b) = Unit {0}

      halts-meant : {p : Plan} → Planned d mark eval h p → Halts p
      halts-meant (settled s t e f) = λ w. record {
        earlier = g.earlier;
        evaluated = alone Unchanged w;
        came = g.came;
        left = few Unchanged w;
        reached = going-reached g;
        u = clamp_into d.u (h.at.u ⊕ s);
        v = clamp_into d.v (h.at.v ⊕ t);
        target = record { s = s; t = t; regular = e; towards_u = refl; towards_v = refl };
        same = f;
      }
      halts-meant (stuck e f) = λ w. (
        record {
          earlier = g.earlier;
          evaluated = alone SecondSingular w;
          came = g.came;
          left = few SecondSingular w;
          reached = going-reached g;
          singular = e;
          before = rw (← alone SecondSingular w) at (g.before f);
        },
        sym (rw f at g.nudge),
      )
      halts-meant (steps s t e f) = tt
      halts-meant (nudge e f) = tt

      -- ---- a round that evaluates at (a, b)

      abbrev Steps : Plan → Type 0
      Steps (Halt how) = Unit {0}
      Steps (Probe c a b) = c ≡ false → Target h.jet h.at a b × ((eq a h.at.u && eq b h.at.v) ≡ false)

      planned-steps : {p : Plan} → Planned d mark eval h p → Steps p
      planned-steps (settled s t e f) = tt
      planned-steps (stuck e f) = tt
      planned-steps (steps s t e f) = λ z. (record { s = s; t = t; regular = e; towards_u = refl; towards_v = refl }, f)
      planned-steps (nudge e f) = λ z. absurd (true≢false z)

      abbrev Nudges : Plan → Type 0
      Nudges (Halt how) = Unit {0}
      Nudges (Probe c a b) = c ≡ true → (step_of mark h.jet ≡ Singular) × Nudge h.at a b

      planned-nudges : {p : Plan} → Planned d mark eval h p → Nudges p
      planned-nudges (settled s t e f) = tt
      planned-nudges (stuck e f) = tt
      planned-nudges (steps s t e f) = λ z. absurd (true≢false (sym z))
      planned-nudges (nudge e f) = λ z. (e, (refl, refl))

      module _ (c : Bool) (a b : Float) (j : Jet) (l : Planned d mark eval h (Probe c a b)) (w : plan d mark h ≡ Probe c a b) (p : eval a b ≡ Found j) where
        abbrev to : Held
        to = next mark h c a b j

        to-reached : Reached d mark eval to.at
        to-reached =
            let l = planned-clamped d mark eval l in
            record { jet = j; found = p; distance = refl; from_u = l.0; from_v = l.1; clamped_u = l.2; clamped_v = l.3 }

        over-at : (t : Verdict) → judge d h.at c to.at ≡ t → ((rest : List Pair) → if_onward t rest ≡ []) → visits d mark eval u v ≡ g.earlier ++ (pair_of h.at ∷ pair_of to.at ∷ [])
        unfolding visits_in visits_on visits_past
        over-at t q z = rw (w, p, q, z) at g.evaluated

        returns-meant : judge d h.at c to.at ≡ Verdict.Further → Meant Further h.at (suc n)
        unfolding if_onward
        returns-meant q =
            let told = rw q at (judge-told d h.at c to.at) in
            let step = planned-steps l told.0 in
            record {
              earlier = g.earlier;
              further = to.at;
              evaluated = over-at Verdict.Further q (λ rest. refl);
              came = g.came;
              reached = going-reached g;
              found = to-reached;
              target = step.0;
              differs = step.1;
              beyond = told.1;
            }

        lands-meant : judge d h.at c to.at ≡ Verdict.Last → Meant SmallStep to.at (suc n)
        unfolding if_onward
        lands-meant q =
            let told = rw q at (judge-told d h.at c to.at) in
            record {
              earlier = g.earlier;
              from = h.at;
              evaluated = over-at Verdict.Last q (λ rest. refl);
              came = g.came;
              reached = to-reached;
              found = going-reached g;
              target = (planned-steps l told.0).0;
              no-nearer = told.1;
              small = told.2;
            }

        abbrev seen : List Pair
        seen = g.earlier ++ (pair_of h.at ∷ [])

        came-on : (b : Bool) → c ≡ b → judge d h.at c to.at ≡ Verdict.Onward → Came seen to.at
        came-on true w q = let n = planned-nudges l w in nudged g.earlier h.at (going-reached g) refl n.0 n.1
        came-on false w q =
            let told = (rw q at (judge-told d h.at c to.at)) w in
            stepped g.earlier h.at (going-reached g) refl (planned-steps l w).0 told.0 told.1

        -- a nudge before this round, or this one
        nudged-on : (b f : Bool) → c ≡ b → h.nudged ≡ f → (f || b) ≡ true → Nudged (seen ++ (pair_of to.at ∷ []))
        nudged-on b true w e z =
            let k = g.before e in
            record {
              before = k.before;
              from = k.from;
              to = k.to;
              after = k.after ++ (pair_of to.at ∷ []);
              evaluated = ap (λ xs. xs ++ (pair_of to.at ∷ [])) k.evaluated ∙ append_assoc k.before _ _;
              reached = k.reached;
              singular = k.singular;
              nudge = k.nudge;
            }
        nudged-on true false w e z =
            let n = planned-nudges l w in
            record {
              before = g.earlier;
              from = h.at;
              to = to.at;
              after = [];
              evaluated = append_assoc g.earlier _ _;
              reached = going-reached g;
              singular = n.0;
              nudge = n.1;
            }
        nudged-on false false w e z = absurd (true≢false (sym z))

        goes_on : judge d h.at c to.at ≡ Verdict.Onward → round d mark eval n h ≡ onto to → Going k (suc n) to
        unfolding visits_in visits_on visits_past if_onward nudges_in nudges_on
        goes_on q e = record {
          clamped = planned-clamped d mark eval l;
          found = p;
          distance = refl;
          earlier = seen;
          evaluated = rw (w, p, q) at g.evaluated ∙ sym (append_assoc g.earlier _ _);
          place = rw length-append (omega (arith, g.place));
          rounds = omega (arith, g.rounds);
          came = came-on c refl q;
          before = λ z. nudged-on c h.nudged refl refl z;
          nudge = kept h.nudged c _ _ (rw e at g.nudge);
        }

    one : Carries d mark eval Going Means
    one k n h g p w l r e (halts how) = halts-meant k n h g l w
    one k n h g p w l r e (refuses c a b) = tt
    one k n h g p w l r e (returns c a b j f q) = returns-meant k n h g c a b j l w f q
    one k n h g p w l r e (lands c a b j f q) = lands-meant k n h g c a b j l w f q
    one k n h g p w l r e (goes c a b j f q) = goes_on k n h g c a b j l w f q e

    first : (j : Jet) → eval (clamp_into d.u u) (clamp_into d.v v) ≡ Found j → Going 32 1 (begun mark (clamp_into d.u u) (clamp_into d.v v) j)
    unfolding visits visits_from nudges nudges_from
    first j p = record {
      clamped = (u, v, refl, refl);
      found = p;
      distance = refl;
      earlier = [];
      evaluated = rw p refl;
      place = refl;
      rounds = refl;
      came = starts refl;
      before = λ z. absurd (true≢false (sym z));
      nudge = rw p refl;
    }

    run-means : Answers (λ e n. Meant e.ending e.at n) (run d mark eval u v)
    unfolding run
    run-means = mapped-answers _ (λ (f : Finished). f.end) (finished d mark eval u v) (by-run d mark eval Going Means done one u v (λ k. tt) first)

    module _ (e : End) (n : ℕ) (w : run d mark eval u v ≡ answered e n) where
      pub end-means : Meant e.ending e.at n
      end-means = rw w at run-means

      meant : (how : Ending) → e.ending ≡ how → Meant how e.at n
      meant how q = rw q at end-means

      -- "pair unchanged": with a round left, the step at the pair is not singular, and its target, clamped, equals the pair
      pub end-unchanged : e.ending ≡ Unchanged → EndsUnchanged (visits d mark eval u v) e.at
      end-unchanged = meant Unchanged

      -- "next point further": the step is not singular, its target, clamped, differs from the pair, was evaluated, and is strictly further
      pub end-further : e.ending ≡ Further → EndsFurther (visits d mark eval u v) e.at
      end-further = meant Further

      -- "small step": the pair was reached by a step from an evaluated pair no nearer to the mark, and the move is at most 1e-15 of the span
      pub end-small : e.ending ≡ SmallStep → EndsSmall (visits d mark eval u v) e.at
      end-small = meant SmallStep

      -- "second singular point": the run was nudged before, and with a round left the determinant test holds at the pair
      pub end-singular : e.ending ≡ SecondSingular → EndsSingular (visits d mark eval u v) e.at × (nudges d mark eval u v ≡ true)
      end-singular = meant SecondSingular

      -- "32 rounds": 33 evaluations were made, and the last of them was a nudge, or a step to no further point and not small
      pub end-rounds : e.ending ≡ AllRounds → EndsRounds (visits d mark eval u v) e.at × (n ≡ 33)
      end-rounds = meant AllRounds
