-- The price of a run is the number of pairs that it evaluates, for every evaluation function. Assumes nothing.
use Prim.Native.Nat.{ℕ, zero, suc, ◌+◌}
use Rattle.std.specs.Prelude.{◌≡◌, Bool, List, [], ◌∷◌, length}
use Rattle.std.proofs.Math.Path.{refl}
use Rattle.std.proofs.Common.{arith}
use Rattle.std.specs.Float.Ieee.{Float}
use Rattle.vector3.specs.declared.Vector3.{Vector3}
use Rattle.price.specs.Price.{Priced, refused, answered, price}
use Rattle.price.specs.Evaluations.{Pair}
use Rattle.price.specs.EvaluationLaws.{FoundAt, last, before, Ending, Evaluates, mapped-evaluates}
use Rattle.patch.specs.declared.Evaluated.{Evaluated}
use Rattle.patch.specs.declared.Evaluated.TheVariants.{Found, Refused}
use Rattle.domain.specs.declared.Domain.{Domain}
use Rattle.newton.specs.declared.Finished.{Finished}
use Rattle.newton.specs.declared.Held.{Held}
use Rattle.newton.specs.declared.Plan.{Plan}
use Rattle.newton.specs.declared.Plan.TheVariants.{Halt, Probe}
use Rattle.newton.specs.declared.Verdict.{Verdict}
use Rattle.newton.specs.declared.Verdict.TheVariants.{Further, Last, Onward}
use Rattle.newton.specs.Run.{clamp_into, plan, judge, follow, begun, next, settle, weigh, pursue, round, rounds, started, finished, run}
use Rattle.newton.specs.Visits.{if_onward, visits_past, visits_on, visits_in, visits_from, visits}

module _ (d : Domain) (mark : Vector3) (eval : Float → Float → Evaluated) where
  -- the same of the rest of a run, after n evaluations
  record More (n : ℕ) (r : Priced Finished) (ps : List Pair) : Type 0 where
    count : price r ≡ n + length ps
    ending : Ending eval r ps

  no_more : (n : ℕ) (f : Finished) → More n (answered f n) []
  no_more n f = record { count = omega arith; ending = tt }

  one_found : {n : ℕ} {r : Priced Finished} {ps : List Pair} {p : Pair} → FoundAt eval p → More (suc n) r ps → More n r (p ∷ ps)
  one_found {n} {r} {ps} {p} f h = record { count = omega (arith, h.count); ending = by r h.ending }
    where
      by : (r : Priced Finished) → Ending eval r ps → Ending eval r (p ∷ ps)
      by (refused k) e = before f e
      by (answered a k) e = (f, e)

  -- k rounds more are known
  module _ (k n : ℕ) (known : (h : Held) → More (suc n) (rounds d mark eval k (suc n) h) (visits_in d mark eval k h)) (h : Held) where
    settled : (to : Held) (w : Verdict) → More (suc n) (follow (rounds d mark eval k (suc n)) (settle d mark h (suc n) to w)) (if_onward w (visits_in d mark eval k to))
    unfolding follow settle if_onward
    settled to Further = no_more (suc n) _
    settled to Last = no_more (suc n) _
    settled to Onward = known to

    weighed : (c : Bool) (u v : Float) (e : Evaluated) → eval u v ≡ e
        → More n (follow (rounds d mark eval k (suc n)) (weigh d mark h (suc n) c u v e)) ((u, v) ∷ visits_past d mark (visits_in d mark eval k) h c u v e)
    unfolding follow weigh visits_past
    weighed c u v Refused p = record { count = omega arith; ending = last p }
    weighed c u v (Found j) p =
        let to = next mark h c u v j in
        one_found (j, p) (settled to (judge d h.at c to.at))

    pursued : (p : Plan) → More n (follow (rounds d mark eval k (suc n)) (pursue d mark eval h n p)) (visits_on d mark eval (visits_in d mark eval k) h p)
    unfolding follow pursue visits_on
    pursued (Halt how) = no_more n _
    pursued (Probe c u v) = weighed c u v (eval u v) refl

  rounds-visits : (k n : ℕ) (h : Held) → More n (rounds d mark eval k n h) (visits_in d mark eval k h)
  unfolding rounds round visits_in
  rounds-visits zero n h = no_more n _
  rounds-visits (suc k) n h = pursued k n (rounds-visits k (suc n)) h (plan d mark h)

  pub finished-evaluates : (u v : Float) → Evaluates eval (finished d mark eval u v) (visits d mark eval u v)
  unfolding finished started visits visits_from
  finished-evaluates u v = by (eval (clamp_into d.u u) (clamp_into d.v v)) refl
    where
      a : Float
      a = clamp_into d.u u

      b : Float
      b = clamp_into d.v v

      by : (e : Evaluated) → eval a b ≡ e → Evaluates eval (started d mark eval a b e) ((a, b) ∷ visits_from d mark eval a b e)
      by Refused p = record { count = refl; ending = last p }
      by (Found j) p =
          let h = one_found {n = 0} (j, p) (rounds-visits 32 1 (begun mark a b j)) in
          record { count = omega (arith, h.count); ending = h.ending }

  -- a run's price is the number of pairs that it evaluates; all are found, or the last is refused and no other
  pub run-evaluates : (u v : Float) → Evaluates eval (run d mark eval u v) (visits d mark eval u v)
  unfolding run
  run-evaluates u v = mapped-evaluates eval (λ (f : Finished). f.end) (visits d mark eval u v) (finished d mark eval u v) (finished-evaluates u v)
