-- Demand 3, the price: laws of an inversion in plain steps that hold for every evaluation function. Assumes nothing.
use Rattle.std.specs.Prelude.{Bool, ℕ, ◌+◌, ◌*◌, ◌≤◌, Float}
use Rattle.std.proofs.Math.Bool.{true, false}
use mathlib.Core.List.{List, [], ◌∷◌}
use Rattle.std.proofs.Common.{mul-le-mul}
use native.Mathlib.Omega.{arith}
use Rattle.std.proofs.Math.ListN.{length}
use Rattle.vector3.specs.declared.Vector3.{Vector3}
use Rattle.price.specs.Price.{Priced, refused, answered, price, mapped}
use Rattle.price.specs.PriceLaws.{Between, after-price, mapped-price, mapped-then, then-least, then-most}
use Rattle.patch.specs.declared.Evaluated.{Evaluated}
use Rattle.domain.specs.declared.Domain.{Domain}
use Rattle.newton.specs.declared.End.{End}
use Rattle.newton.specs.Run.{run}
use Rattle.newton.specs.RunLaws.{run-count}
use Rattle.shortlist.specs.declared.Start.{Start}
use Rattle.shortlist.specs.FirstSix.{starts_of}
use Rattle.seeds.specs.Grid.{survey}
use Rattle.inversion.specs.declared.Hint.{Hint}
use Rattle.inversion.specs.declared.Choice.{Choice}
use Rattle.inversion.specs.declared.Best.{Best}
use Rattle.inversion.specs.declared.Best.TheVariants.{Nothing, At}
use Rattle.inversion.specs.Inversion.{of_hint, numbered, within, led, choose, runs, searched, explored, unless_close, hinted, plain_steps}
use Rattle.inversion.specs.GridLaws.{survey-price, starts-six}

-- what the runs take at most: six of 33 evaluations from the starts, and that of a hint, which is charged twice
unfoldable pub runs_for : Hint → ℕ
runs_for Hint.Nothing = 198
runs_for (Hint.At u v) = 264

choose-most : (k : ℕ) (cs : List Choice) → price (choose k cs) ≤ k
unfolding choose
choose-most k [] = omega arith
choose-most k (c ∷ cs) = omega arith

module _ (d : Domain) (mark : Vector3) (eval : Float → Float → Evaluated) where
  runs-most : (ss : List Start) → price (runs d mark eval ss) ≤ 33 * length ss
  unfolding runs
  runs-most [] = omega arith
  runs-most (s ∷ ss) =
      let r = run d mark eval s.u s.v in
      let rest : End → Priced (List End) = λ e. mapped (λ es. e ∷ es) (runs d mark eval ss) in
      omega (arith, then-most r rest (33 * length ss) (λ e. omega (arith, mapped-price (λ (es : List End). e ∷ es) (runs d mark eval ss), runs-most ss)), run-count d mark eval s.u s.v)

  searched-most : (best : Best) (k i : ℕ) (ss : List Start) → price (searched d mark eval best k i ss) ≤ 33 * length ss + k
  unfolding searched
  searched-most best k i ss = omega (arith, then-most (runs d mark eval ss) (λ (es : List End). choose k (led best (numbered i es))) k (λ es. choose-most k (led best (numbered i es))), runs-most ss)

  module _ (us vs : List Float) (hu : Between 1 (length us) 193) (hv : Between 1 (length vs) 193) where
    grid-bounds : Between 1 (price (survey mark eval us vs)) 37249
    grid-bounds =
        let few : length us * length vs ≤ 37249 = mul-le-mul hu.under hv.under in
        let some : 1 ≤ length us * length vs = mul-le-mul hu.above hv.above in
        let p = survey-price mark eval us vs some in
        record { above = p.above; under = omega (arith, p.under) }

    -- at most six starts
    explored-most : (best : Best) (k : ℕ) → price (explored d mark eval us vs best k) ≤ price (survey mark eval us vs) + (198 + k)
    unfolding explored
    explored-most best k =
        rw mapped-then
        (then-most (survey mark eval us vs) (λ (ps : List Start). searched d mark eval best k 1 (starts_of ps)) (198 + k)
        (λ ps. omega (arith, searched-most best k 1 (starts_of ps), starts-six ps)))

    explored-bounds : (best : Best) (k : ℕ) → Between 1 (price (explored d mark eval us vs best k)) (37447 + k)
    unfolding explored
    explored-bounds best k =
        let points = survey mark eval us vs in
        let starts = mapped starts_of points in
        let least = then-least starts (searched d mark eval best k 1) in
        let g = grid-bounds in
        let same = mapped-price starts_of points in
        record { above = omega (arith, g.above, same, least); under = omega (arith, g.under, same, explored-most best k) }

    close-bounds : (t : Bool) (e : End) (k : ℕ) → Between 1 k 33 → Between 1 (price (unless_close d mark eval us vs t e k)) 37513
    unfolding unless_close
    close-bounds true e k h = record { above = h.above; under = omega arith }
    close-bounds false e k h =
        let x = explored-bounds (At (of_hint e)) k in
        let p = after-price k (explored d mark eval us vs (At (of_hint e)) k) in
        record { above = omega (arith, h.above, p); under = omega (arith, h.under, x.under, p) }

    hinted-bounds : (tolerance : Float) (r : Priced End) → Between 1 (price r) 33 → Between 1 (price (hinted d mark eval us vs tolerance r)) 37513
    unfolding hinted
    hinted-bounds tolerance (refused k) h = record { above = h.above; under = omega arith }
    hinted-bounds tolerance (answered e k) h = close-bounds (within e tolerance) e k h

    -- "an inversion on it has one price, 01's count of evaluations, 1 to 37,513, whatever its budget"
    pub price-bounds : (hint : Hint) (tolerance : Float) → Between 1 (price (plain_steps d mark eval us vs hint tolerance)) 37513
    unfolding plain_steps
    price-bounds Hint.Nothing tolerance =
        let x = explored-bounds Nothing 0 in
        record { above = x.above; under = omega (arith, x.under) }
    price-bounds (Hint.At u v) tolerance = hinted-bounds tolerance (run d mark eval u v) (run-count d mark eval u v)

    -- the size of the grid and what a hint adds to it bound the price
    grid-most : price (survey mark eval us vs) ≤ length us * length vs
    grid-most = (survey-price mark eval us vs (mul-le-mul hu.above hv.above)).under

    close-most : (t : Bool) (e : End) (k : ℕ) → k ≤ 33 → price (unless_close d mark eval us vs t e k) ≤ length us * length vs + 264
    unfolding unless_close
    close-most true e k h = omega (arith, h)
    close-most false e k h =
        let p = after-price k (explored d mark eval us vs (At (of_hint e)) k) in
        omega (arith, h, explored-most (At (of_hint e)) k, grid-most, p)

    hinted-most : (tolerance : Float) (r : Priced End) → price r ≤ 33 → price (hinted d mark eval us vs tolerance r) ≤ length us * length vs + 264
    unfolding hinted
    hinted-most tolerance (refused k) h = omega (arith, h)
    hinted-most tolerance (answered e k) h = close-most (within e tolerance) e k h

    by-grid : (hint : Hint) (tolerance : Float) → price (plain_steps d mark eval us vs hint tolerance) ≤ length us * length vs + runs_for hint
    unfolding plain_steps runs_for
    by-grid Hint.Nothing tolerance = omega (arith, explored-most Nothing 0, grid-most)
    by-grid (Hint.At u v) tolerance = hinted-most tolerance (run d mark eval u v) (run-count d mark eval u v).under

    -- at least one evaluation, and at most the grid's and those of the runs
    pub price-by-grid : (hint : Hint) (tolerance : Float) → Between 1 (price (plain_steps d mark eval us vs hint tolerance)) (length us * length vs + runs_for hint)
    price-by-grid hint tolerance = record { above = (price-bounds hint tolerance).above; under = by-grid hint tolerance }
