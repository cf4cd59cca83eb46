-- Demand 3, the price: it is the number of pairs that the plain steps evaluate, for every evaluation function. Assumes nothing.
use Rattle.std.proofs.Math.Path.{◌≡◌}
use Rattle.std.specs.Prelude.{refl, Bool, cond, ℕ, ◌≤◌, length, Float}
use Rattle.std.proofs.Math.Bool.{true, false}
use mathlib.Core.List.{List, [], ◌∷◌, ◌++◌, append-nil}
use native.Mathlib.Omega.{arith}
use Rattle.vector3.specs.declared.Vector3.{Vector3}
use Rattle.price.specs.Price.{Priced, refused, answered, mapped, ◌then◌}
use Rattle.price.specs.PriceLaws.{mapped-then}
use Rattle.price.specs.Evaluations.{Pair, until}
use Rattle.price.specs.EvaluationLaws.{Evaluates, evaluates-whole, mapped-evaluates, then-evaluates}
use Rattle.patch.specs.declared.Evaluated.{Evaluated}
use Rattle.domain.specs.declared.Domain.{Domain}
use Rattle.newton.specs.declared.End.{End}
use Rattle.newton.specs.Run.{run}
use Rattle.newton.specs.Visits.{visits}
use Rattle.newton.proofs.VisitLaws.{run-evaluates}
use Rattle.shortlist.specs.declared.Start.{Start}
use Rattle.shortlist.specs.FirstSix.{starts_of}
use Rattle.seeds.specs.Grid.{survey}
use Rattle.seeds.specs.Visits.{grid_of, points_of}
use Rattle.seeds.specs.VisitLaws.{survey-evaluates, survey-grid}
use Rattle.inversion.specs.declared.Hint.{Hint}
use Rattle.inversion.specs.declared.Choice.{Choice}
use Rattle.inversion.specs.declared.Best.{Best}
use Rattle.inversion.specs.declared.Best.TheVariants.{Nothing, At}
use Rattle.inversion.specs.Inversion.{of_hint, numbered, within, nearest_of, led, choose, runs, searched, explored, unless_close, hinted, plain_steps}
use Rattle.inversion.specs.Visits.{is_close, visits_of, search, planned, evaluations}
use Rattle.inversion.proofs.InversionLaws.{ends_some}

module _ (d : Domain) (mark : Vector3) (eval : Float → Float → Evaluated) where
  run-until : (u v : Float) → Evaluates eval (run d mark eval u v) (until eval (visits d mark eval u v))
  run-until u v = evaluates-whole eval (visits d mark eval u v) (run d mark eval u v) (run-evaluates d mark eval u v)

  runs-evaluates : (ss : List Start) → Evaluates eval (runs d mark eval ss) (until eval (visits_of d mark eval ss))
  unfolding runs visits_of until
  runs-evaluates [] = record { count = refl; ending = tt }
  runs-evaluates (s ∷ ss) =
      then-evaluates eval (visits d mark eval s.u s.v) (visits_of d mark eval ss) (λ (e : End). mapped (λ (es : List End). e ∷ es) (runs d mark eval ss)) (run d mark eval s.u s.v) (run-until s.u s.v)
      (λ e n p. mapped-evaluates eval (λ (es : List End). e ∷ es) (until eval (visits_of d mark eval ss)) (runs d mark eval ss) (runs-evaluates ss))

  -- k evaluations are charged again at the end, those of these pairs
  module _ (k : ℕ) (again : List Pair) (ready : (c : Choice) → Evaluates eval (answered c k) (until eval again)) where
    choose-evaluates : (cs : List Choice) → (cs ≡ [] → ⊥) → Evaluates eval (choose k cs) (until eval again)
    unfolding choose
    choose-evaluates [] some = absurd (some refl)
    choose-evaluates (c ∷ cs) some = ready (nearest_of c cs)

    searched-evaluates : (best : Best) (ss : List Start) → ((es : List End) (n : ℕ) → runs d mark eval ss ≡ answered es n → led best (numbered 1 es) ≡ [] → ⊥)
        → Evaluates eval (searched d mark eval best k 1 ss) (until eval (visits_of d mark eval ss ++ again))
    unfolding searched
    searched-evaluates best ss some =
        then-evaluates eval (visits_of d mark eval ss) again (λ (es : List End). choose k (led best (numbered 1 es))) (runs d mark eval ss) (runs-evaluates ss) (λ es n p. choose-evaluates (led best (numbered 1 es)) (some es n p))

    module _ (us vs : List Float) (hu : 1 ≤ length us) (hv : 1 ≤ length vs) where
      led-some : (best : Best) (ps : List Start) (n : ℕ) → survey mark eval us vs ≡ answered ps n → (es : List End) (m : ℕ) → runs d mark eval (starts_of ps) ≡ answered es m → led best (numbered 1 es) ≡ [] → ⊥
      unfolding led numbered
      led-some Nothing ps n w [] m p z = ends_some d mark eval us vs hu hv ps n w m p
      led-some Nothing ps n w (e ∷ es) m p z = let y : ◌≡◌ {A = ℕ} 0 1 = cc in omega arith
      led-some (At c) ps n w es m p z = let y : ◌≡◌ {A = ℕ} 0 1 = cc in omega arith

      explored-evaluates : (best : Best) → Evaluates eval (explored d mark eval us vs best k) (until eval (search d mark eval us vs again))
      unfolding explored search
      explored-evaluates best =
          let grid = grid_of us vs in
          rw mapped-then
          (then-evaluates eval grid (visits_of d mark eval (starts_of (points_of mark eval grid)) ++ again) (λ (ps : List Start). searched d mark eval best k 1 (starts_of ps)) (survey mark eval us vs) (survey-evaluates mark eval us vs)
          (λ ps n w. let g = rw w at (survey-grid mark eval us vs) in rw (← g.points) (searched-evaluates best (starts_of ps) (led-some best ps n w))))

  module _ (us vs : List Float) (hu : 1 ≤ length us) (hv : 1 ≤ length vs) where
    close-evaluates : (again : List Pair) (t : Bool) (e : End) (k : ℕ) → Evaluates eval (answered e k) (until eval again)
        → Evaluates eval (unless_close d mark eval us vs t e k) (until eval (again ++ cond t [] (search d mark eval us vs again)))
    unfolding unless_close ◌then◌
    close-evaluates again true e k h = rw append-nil (record { count = h.count; ending = h.ending })
    close-evaluates again false e k h =
        then-evaluates eval again (search d mark eval us vs again) (λ (b : End). explored d mark eval us vs (At (of_hint e)) k) (answered e k) h
        (λ b n p. explored-evaluates k again (λ c. record { count = h.count; ending = h.ending }) us vs hu hv (At (of_hint e)))

    hinted-evaluates : (tolerance : Float) (again : List Pair) (r : Priced End) → Evaluates eval r (until eval again)
        → Evaluates eval (hinted d mark eval us vs tolerance r) (until eval (again ++ cond (is_close tolerance r) [] (search d mark eval us vs again)))
    unfolding hinted is_close ◌then◌
    hinted-evaluates tolerance again (refused k) h =
        then-evaluates eval again (search d mark eval us vs again) (λ (e : End). answered (of_hint e) 0) (refused k) h (λ e n p. absurd (let y : ◌≡◌ {A = ℕ} 0 1 = cc in omega arith))
    hinted-evaluates tolerance again (answered e k) h = close-evaluates again (within e tolerance) e k h

    -- the price of the plain steps is the number of pairs that they evaluate; where they are answered all are found, and where not the last is refused and no other
    pub steps-evaluate : (hint : Hint) (tolerance : Float) → Evaluates eval (plain_steps d mark eval us vs hint tolerance) (evaluations d mark eval us vs hint tolerance)
    unfolding plain_steps evaluations planned until
    steps-evaluate Hint.Nothing tolerance = explored-evaluates 0 [] (λ e. record { count = refl; ending = tt }) us vs hu hv Nothing
    steps-evaluate (Hint.At u v) tolerance = hinted-evaluates tolerance (visits d mark eval u v) (run d mark eval u v) (run-until u v)
