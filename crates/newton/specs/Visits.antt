-- The pairs that a run evaluates, in order, with no word of a count. Definitions only.
use Rattle.std.specs.Prelude.{ℕ, zero, suc, Bool, List, [], ◌∷◌, Float}
use Rattle.vector3.specs.declared.Vector3.{Vector3}
use Rattle.price.specs.Evaluations.{Pair}
use Rattle.patch.specs.declared.Evaluated.{Evaluated}
use Rattle.patch.specs.declared.Evaluated.TheVariants.{Found, Refused}
use Rattle.domain.specs.declared.Domain.{Domain}
use Rattle.newton.specs.declared.Held.{Held}
use Rattle.newton.specs.declared.Plan.{Plan}
use Rattle.newton.specs.declared.Plan.TheVariants.{Halt, Probe}
use Rattle.newton.specs.declared.Verdict.{Verdict}
use Rattle.newton.specs.declared.Verdict.TheVariants.{Further, Last, Onward}
use Rattle.newton.specs.Run.{clamp_into, plan, judge, begun, next}

-- the rest of a run, unless its last evaluation ends it
unfoldable pub if_onward : Verdict → List Pair → List Pair
if_onward Further rest = []
if_onward Last rest = []
if_onward Onward rest = rest

module _ (d : Domain) (mark : Vector3) where
  -- after the evaluation of (u, v)
  unfoldable pub visits_past : (Held → List Pair) → Held → Bool → Float → Float → Evaluated → List Pair
  visits_past rest h c u v Refused = []
  visits_past rest h c u v (Found j) = let to = next mark h c u v j in if_onward (judge d h.at c to.at) (rest to)

  module _ (eval : Float → Float → Evaluated) where
    unfoldable pub visits_on : (Held → List Pair) → Held → Plan → List Pair
    visits_on rest h (Halt how) = []
    visits_on rest h (Probe c u v) = (u, v) ∷ visits_past rest h c u v (eval u v)

    -- in k rounds more
    unfoldable pub visits_in : ℕ → Held → List Pair
    visits_in zero h = []
    visits_in (suc k) h = visits_on (visits_in k) h (plan d mark h)

    unfoldable pub visits_from : Float → Float → Evaluated → List Pair
    visits_from u v Refused = []
    visits_from u v (Found j) = visits_in 32 (begun mark u v j)

    -- "A run clamps its start, evaluates, then does at most 32 rounds"
    unfoldable pub visits : Float → Float → List Pair
    visits u v =
        let a = clamp_into d.u u in
        let b = clamp_into d.v v in
        (a, b) ∷ visits_from a b (eval a b)
