-- Demand 3, the pair: laws of an inversion in plain steps that hold for every evaluation function. Assumes nothing.
use Rattle.std.specs.Prelude.{◌≡◌, Bool, cond, ℕ, suc, ◌+◌, ◌*◌, ◌≤◌, Float}
use Rattle.std.proofs.Math.Path.{refl}
use Rattle.std.proofs.Math.Bool.{true, false}
use mathlib.Core.List.Memᴰ
use mathlib.Core.List.{List, [], ◌∷◌, Memᴰ}
use Rattle.std.proofs.Common.{mul-le-mul, arith}
use Rattle.std.proofs.Math.Nat.{zero-add}
use Rattle.std.proofs.Math.ListN.{length}
use Rattle.std.specs.Float.Ieee.{lt, le, is_nan}
use Rattle.float64.specs.Order.{le_trans, le_lt_trans, le_not_lt}
use Rattle.vector3.specs.declared.Vector3.{Vector3}
use Rattle.price.specs.Price.{Priced, refused, answered, mapped, ◌then◌}
use Rattle.price.specs.PriceLaws.{Answers, answers-map, after-answers, mapped-answers, then-answers}
use Rattle.patch.specs.declared.Jet.{Jet}
use Rattle.patch.specs.declared.Evaluated.{Evaluated}
use Rattle.patch.specs.declared.Evaluated.TheVariants.{Found}
use Rattle.patch.specs.Patch.{from_mark}
use Rattle.domain.specs.declared.Domain.{Domain}
use Rattle.newton.specs.declared.End.{End}
use Rattle.newton.specs.Run.{clamp_into, run, nudges}
use Rattle.newton.specs.RunLaws.{Ends, Inside, Reached, run-held, run-in-domain, run-descends}
use Rattle.shortlist.specs.declared.Start.{Start}
use Rattle.shortlist.specs.FirstSix.{starts_of}
use Rattle.shortlist.specs.SortLaws.{numbers_of, NearestSix, starts-nearest-six}
use Rattle.seeds.specs.Grid.{survey}
use Rattle.inversion.specs.declared.Hint.{Hint}
use Rattle.inversion.specs.declared.Choice.{Choice}
use Rattle.inversion.specs.declared.Best.{Best}
use Rattle.inversion.specs.declared.Best.TheVariants.{Nothing, At}
use Rattle.inversion.specs.Inversion.{of_hint, numbered, within, nearer, nearest_of, led, choose, runs, searched, explored, unless_close, hinted, plain_steps}
use Rattle.inversion.specs.Nearest.{All, all-at, all_map, Number, Nearest, here, there, nearest-member, nearest-least, First, nearest-first, nearest-front, nearest-second, nearest-only}
use Rattle.inversion.specs.GridLaws.{Counted, Seen, OnGrid, away, Fronted, survey-counted, survey-seen, survey-on-grid, survey-meets, survey-found, starts-some, starts-fronted}

-- ---- the nearest of the ends

-- what holds of the end of the run that was chosen, where there is one
abbrev pub EndsAt : (End → Type 0) → Priced Choice → Type 0
EndsAt P r = Answers (λ c n. P c.end) r

abbrev pub far : Choice → Float
far c = c.end.at.distance

-- what holds of all holds of the nearest
nearest-of : (P : Choice → Type 0) (a : Choice) (bs : List Choice) → P a → All P bs → P (nearest_of a bs)
unfolding nearest_of nearer
nearest-of P a [] h k = h
nearest-of P a (b ∷ bs) h k = nearest-of P (nearer a b) bs (by (lt (far b) (far a))) k.1
  where
    by : (t : Bool) → P (cond t b a)
    by true = k.0
    by false = h

nearest-step : (a b : Choice) (bs : List Choice) → Number far a → Number far b → ((c : Choice) → Number far c → Nearest far (nearest_of c bs) (c ∷ bs))
    → (t : Bool) → lt (far b) (far a) ≡ t → Nearest far (nearest_of (cond t b a) bs) (a ∷ b ∷ bs)
nearest-step a b bs ha hb rest true l =
    let n = rest b hb in
    there {b = a} (le_lt_trans (far (nearest_of b bs)) (far b) (far a) (nearest-front far hb n) l) n
nearest-step a b bs ha hb rest false l =
    let h : le (far a) (far b) ≡ true = simp (le_not_lt (far a) (far b) ha hb, l) in
    nearest-second far b h (rest a ha)

-- the fold `nearest_of` finds the first with the least distance
pub nearest-nearest : (a : Choice) (bs : List Choice) → All (Number far) (a ∷ bs) → Nearest far (nearest_of a bs) (a ∷ bs)
unfolding nearest_of nearer
nearest-nearest a [] h = here tt
nearest-nearest a (b ∷ bs) h = nearest-step a b bs h.0 h.1.0 (λ c k. nearest-nearest c bs (k, h.1.1)) (lt (far b) (far a)) refl

-- the nearest of a list, as the plain steps take it
abbrev pub Picked : List Choice → Choice → Type 0
Picked [] a = ⊥
Picked (b ∷ bs) a = nearest_of b bs ≡ a

picked_of : (P : Choice → Type 0) (bs : List Choice) (a : Choice) → All P bs → Picked bs a → P a
picked_of P [] a h p = absurd p
picked_of P (b ∷ bs) a h p = rw p at (nearest-of P b bs h.0 h.1)

picked-nearest : (bs : List Choice) (a : Choice) → All (Number far) bs → Picked bs a → Nearest far a bs
picked-nearest [] a h p = absurd p
picked-nearest (b ∷ bs) a h p = rw p at (nearest-nearest b bs h)

-- ---- where a pair comes from

module _ (d : Domain) (mark : Vector3) (eval : Float → Float → Evaluated) where
  -- the ends of the runs from starts, in order, and the evaluations that they made
  pub data Ran : List Start → List End → ℕ → Type 0 where
    none : Ran [] [] 0
    next : {s : Start} {ss : List Start} {e : End} {k : ℕ} {es : List End} {n : ℕ} → run d mark eval s.u s.v ≡ answered e k → Ran ss es n → Ran (s ∷ ss) (e ∷ es) (k + n)

  run_ran : (s : Start) (ss : List Start) → Answers (Ran ss) (runs d mark eval ss) → (r : Priced End) → run d mark eval s.u s.v ≡ r
      → Answers (Ran (s ∷ ss)) (r then λ e. mapped (λ es. e ∷ es) (runs d mark eval ss))
  unfolding ◌then◌
  run_ran s ss h (refused n) p = tt
  run_ran s ss h (answered e n) p =
      after-answers (Ran (s ∷ ss)) n _ (mapped-answers (λ es k. Ran (s ∷ ss) es (n + k)) (λ es. e ∷ es) (runs d mark eval ss) (answers-map (Ran ss) _ (λ es k r. next p r) (runs d mark eval ss) h))

  runs-ran : (ss : List Start) → Answers (Ran ss) (runs d mark eval ss)
  unfolding runs
  runs-ran [] = none
  runs-ran (s ∷ ss) = run_ran s ss (runs-ran ss) (run d mark eval s.u s.v) refl

  ran-some : {ss : List Start} {k : ℕ} → Ran ss [] k → 1 ≤ length ss → ⊥
  ran-some none h = omega arith

  -- the end of the hint's run, if there is a hint, which is not within tolerance; and the evaluations that it made
  pub data Leads (tolerance : Float) : Hint → Best → ℕ → Type 0 where
    nothing : Leads tolerance Hint.Nothing Nothing 0
    from : {u v : Float} {e : End} {k : ℕ} → run d mark eval u v ≡ answered e k → within e tolerance ≡ false → Leads tolerance (Hint.At u v) (At (of_hint e)) k

  module _ (us vs : List Float) where
    -- "A pair, before any shift by periods, is the hint run's end where that lies within tolerance."
    pub hint-taken : (u v tolerance : Float) (e : End) (k : ℕ) → run d mark eval u v ≡ answered e k → within e tolerance ≡ true
        → plain_steps d mark eval us vs (Hint.At u v) tolerance ≡ answered (of_hint e) k
    unfolding plain_steps hinted unless_close
    hint-taken u v tolerance e k p h = simp (p, h)

    -- where no evaluation refuses there is an end, so that `choose` never meets none
    pub ends_some : 1 ≤ length us → 1 ≤ length vs → (ps : List Start) (n : ℕ) → survey mark eval us vs ≡ answered ps n → (k : ℕ) → runs d mark eval (starts_of ps) ≡ answered [] k → ⊥
    ends_some hu hv ps n w k p =
        let count = rw w at (survey-counted mark eval us vs) in
        let some : 1 ≤ length us * length vs = mul-le-mul hu hv in
        ran-some (rw p at (runs-ran (starts_of ps))) (starts-some ps (omega (arith, count.0)))

    -- "Otherwise it is the nearest of the ends of the hint's run, if any, and of the runs from the first six of the whole grid sorted by distance, equal distances dropped"
    pub record Chosen (tolerance : Float) (hint : Hint) (c : Choice) (n : ℕ) : Type 0 where
      pub lead : Best
      pub lead_made : ℕ
      pub leads : Leads tolerance hint lead lead_made
      pub points : List Start
      pub whole : survey mark eval us vs ≡ answered points (length us * length vs)
      pub others : List End
      pub made : ℕ
      pub ran : Ran (starts_of points) others made
      pub picked : Picked (led lead (numbered 1 others)) c
      pub price : n ≡ 2 * lead_made + length us * length vs + made

    -- the ends among which it was chosen, the hint's first, then the starts' in order
    abbrev pub candidates : {tolerance : Float} {hint : Hint} {e : Choice} {n : ℕ} → Chosen tolerance hint e n → List Choice
    candidates c = led c.lead (numbered 1 c.others)

    -- a grid point that is at least as far as an end
    pub record AsFar (e : End) (u v : Float) : Type 0 where
      pub jet : Jet
      pub found : eval u v ≡ Found jet
      pub far : le e.at.distance (from_mark mark jet) ≡ true

    -- the nearest of the grid's points, the first among equals; unless the run from it was nudged, every point of the grid is at least as far as the end
    pub record NoNearer (points : List Start) (e : End) : Type 0 where
      pub nearest : Start
      pub first : First away nearest points
      pub beyond : nudges d mark eval nearest.u nearest.v ≡ false → (u v : Float) → Memᴰ u us → Memᴰ v vs → AsFar e u v

    -- a pair is the end of the hint's run, within tolerance, or it is chosen
    pub data Paired (tolerance : Float) : Hint → Choice → ℕ → Type 0 where
      taken : {u v : Float} {e : End} {n : ℕ} → run d mark eval u v ≡ answered e n → within e tolerance ≡ true → Paired tolerance (Hint.At u v) (of_hint e) n
      among : {hint : Hint} {c : Choice} {n : ℕ} → Chosen tolerance hint c n → Paired tolerance hint c n

    module _ (tolerance : Float) where
      -- after the hint's run
      module _ (hint : Hint) (lead : Best) (k : ℕ) (leads : Leads tolerance hint lead k) where
        abbrev Goes : Choice → ℕ → Type 0
        Goes c n = Paired tolerance hint c (k + n)

        choose-paired : (ps : List Start) → survey mark eval us vs ≡ answered ps (length us * length vs) → (es : List End) (m : ℕ) → Ran (starts_of ps) es m
            → (l : List Choice) → led lead (numbered 1 es) ≡ l → Answers (λ c n. Goes c (length us * length vs + (m + n))) (choose k l)
        unfolding choose
        choose-paired ps w es m r [] p = tt
        choose-paired ps w es m r (a ∷ bs) p =
            let c : Chosen tolerance hint (nearest_of a bs) (k + (length us * length vs + (m + k))) = record {
              lead = lead;
              lead_made = k;
              leads = leads;
              points = ps;
              whole = w;
              others = es;
              made = m;
              ran = r;
              picked = rw p refl;
              price = omega arith;
            } in
            among c

        searched-paired : (ps : List Start) → survey mark eval us vs ≡ answered ps (length us * length vs) → Answers (λ c n. Goes c (length us * length vs + n)) (searched d mark eval lead k 1 (starts_of ps))
        unfolding searched
        searched-paired ps w =
            then-answers (Ran (starts_of ps)) (λ c n. Goes c (length us * length vs + n)) (λ es. choose k (led lead (numbered 1 es))) (λ es m r. choose-paired ps w es m r (led lead (numbered 1 es)) refl)
            (runs d mark eval (starts_of ps)) (runs-ran (starts_of ps))

        explored-paired : Answers Goes (explored d mark eval us vs lead k)
        unfolding explored ◌then◌ mapped
        explored-paired = by (survey mark eval us vs) refl (survey-counted mark eval us vs)
          where
            by : (s : Priced (List Start)) → survey mark eval us vs ≡ s → Counted (length us * length vs) s → Answers Goes (mapped starts_of s then searched d mark eval lead k 1)
            by (refused n) w c = tt
            by (answered ps n) w c =
                rw c.1 (after-answers Goes (length us * length vs) (searched d mark eval lead k 1 (starts_of ps)) (searched-paired ps (rw c.1 at w)))

      hinted-paired : (u v : Float) (r : Priced End) → run d mark eval u v ≡ r → Answers (Paired tolerance (Hint.At u v)) (hinted d mark eval us vs tolerance r)
      unfolding hinted unless_close
      hinted-paired u v (refused n) p = tt
      hinted-paired u v (answered e k) p = by (within e tolerance) refl
        where
          by : (t : Bool) → within e tolerance ≡ t → Answers (Paired tolerance (Hint.At u v)) (unless_close d mark eval us vs t e k)
          by true t = taken p t
          by false t = after-answers (Paired tolerance (Hint.At u v)) k _ (explored-paired (Hint.At u v) (At (of_hint e)) k (from p t))

      pub plain_steps-paired : (hint : Hint) → Answers (Paired tolerance hint) (plain_steps d mark eval us vs hint tolerance)
      unfolding plain_steps
      plain_steps-paired Hint.Nothing = answers-map _ _ (λ e n p. rw zero-add at p) (explored d mark eval us vs Nothing 0) (explored-paired Hint.Nothing Nothing 0 nothing)
      plain_steps-paired (Hint.At u v) = hinted-paired u v (run d mark eval u v) refl

    -- ---- what holds of every run's end holds of the pair

    module _ (P : End → Type 0) (each : (u v : Float) → Ends P (run d mark eval u v)) where
      ran-all : {ss : List Start} {es : List End} {n : ℕ} → Ran ss es n → All P es
      ran-all none = tt
      ran-all (next {s = s} p r) = (rw p at (each s.u s.v), ran-all r)

      abbrev EndIs : Choice → Type 0
      EndIs c = P c.end

      numbered-all : (i : ℕ) (es : List End) → All P es → All EndIs (numbered i es)
      unfolding numbered
      numbered-all i [] h = tt
      numbered-all i (e ∷ es) h = (h.0, numbered-all (suc i) es h.1)

      led-all : {tolerance : Float} {hint : Hint} {b : Best} {k : ℕ} (es : List End) → Leads tolerance hint b k → All P es → All EndIs (led b (numbered 1 es))
      unfolding led
      led-all es nothing h = numbered-all 1 es h
      led-all es (from {u = u} {v = v} p t) h = (rw p at (each u v), numbered-all 1 es h)

      module _ {tolerance : Float} {hint : Hint} {e : Choice} {n : ℕ} where
        pub chosen-all : (c : Chosen tolerance hint e n) → All EndIs (candidates c)
        chosen-all c = led-all c.others c.leads (ran-all c.ran)

        pub chosen-end : (c : Chosen tolerance hint e n) → P e.end
        chosen-end c = picked_of EndIs (candidates c) e (chosen-all c) c.picked

      paired-end : {tolerance : Float} {hint : Hint} {e : Choice} {n : ℕ} → Paired tolerance hint e n → P e.end
      paired-end (taken {u = u} {v = v} p t) = rw p at (each u v)
      paired-end (among c) = chosen-end c

      plain_steps-end : (hint : Hint) (tolerance : Float) → EndsAt P (plain_steps d mark eval us vs hint tolerance)
      plain_steps-end hint tolerance = answers-map (Paired tolerance hint) _ (λ e n p. paired-end p) (plain_steps d mark eval us vs hint tolerance) (plain_steps-paired tolerance hint)

    -- the pair was evaluated, and the distance is its own
    pub pair_held : (hint : Hint) (tolerance : Float) → EndsAt (λ e. Reached d mark eval e.at) (plain_steps d mark eval us vs hint tolerance)
    pair_held = plain_steps-end (λ e. Reached d mark eval e.at) (run-held d mark eval)

    -- the evaluation refuses a pair with a NaN in it
    module _ (number : (u v : Float) (j : Jet) → eval u v ≡ Found j → (is_nan u ≡ false) × (is_nan v ≡ false)) where
      -- "Before that shift, axes without the periodic flag stay in their knot domain."
      pub in-domain : (hint : Hint) (tolerance : Float) → EndsAt (λ e. Inside d.u e.at.u × Inside d.v e.at.v) (plain_steps d mark eval us vs hint tolerance)
      in-domain = plain_steps-end _ (run-in-domain d mark eval number)

      -- no number of a pair is a NaN
      pub pair-number : (hint : Hint) (tolerance : Float) → EndsAt (λ e. (is_nan e.at.u ≡ false) × (is_nan e.at.v ≡ false)) (plain_steps d mark eval us vs hint tolerance)
      pair-number = plain_steps-end _ (λ u v. answers-map _ _ (λ e n r. number e.at.u e.at.v r.jet r.found) (run d mark eval u v) (run-held d mark eval u v))

    -- no distance is a NaN
    module _ (number : (u v : Float) (j : Jet) → eval u v ≡ Found j → is_nan (from_mark mark j) ≡ false) where
      abbrev Known : End → Type 0
      Known e = is_nan e.at.distance ≡ false

      ends-known : (u v : Float) → Ends Known (run d mark eval u v)
      ends-known u v = answers-map _ _ (λ e n r. rw r.distance (number e.at.u e.at.v r.jet r.found)) (run d mark eval u v) (run-held d mark eval u v)

      module _ {tolerance : Float} {hint : Hint} {e : Choice} {n : ℕ} (c : Chosen tolerance hint e n) where
        -- "it is the nearest of the ends", the hint's first, then the starts' in order
        pub nearest-end : Nearest far e (candidates c)
        nearest-end = picked-nearest (candidates c) e (chosen-all Known ends-known c) c.picked

        pub end-least : All (λ b. le (far e) (far b) ≡ true) (candidates c)
        end-least = nearest-least far (chosen-end Known ends-known c) nearest-end

        -- "the hint wins ties, then the earlier": the ends before it are further
        pub ties : First far e (candidates c)
        ties = nearest-first far nearest-end

        seen : All (Seen mark eval) c.points
        seen = rw c.whole at (survey-seen mark eval us vs)

        known : All (Number away) c.points
        known = all_map (Seen mark eval) (Number away) (λ q r. rw r.distance (number q.u q.v r.jet r.found)) c.points seen

        -- "the first six of the whole grid sorted by distance, equal distances dropped"
        pub first-six : NearestSix c.points (starts_of c.points)
        first-six = starts-nearest-six c.points (numbers_of c.points (λ p m. all-at (Number away) known m))

      -- where an evaluation at a grid point succeeds, so does that of the clamped pair, with the same result
      module _ (clamped : (u v : Float) (j : Jet) → eval u v ≡ Found j → Memᴰ u us → Memᴰ v vs → eval (clamp_into d.u u) (clamp_into d.v v) ≡ Found j) where
        start-descends : (s : Start) → Seen mark eval s → OnGrid mark eval us vs s → nudges d mark eval s.u s.v ≡ false → Ends (λ e. le e.at.distance s.distance ≡ true) (run d mark eval s.u s.v)
        start-descends s h g k = rw h.distance (run-descends d mark eval number s.u s.v h.jet (clamped s.u s.v h.jet h.found g.0 g.1) k)

        -- the end of the run from the nearest point is no further than that point
        nearest-descends : (ps ss : List Start) (es : List End) (m : ℕ) → All (Seen mark eval) ps → All (OnGrid mark eval us vs) ps → Fronted ps ss → Ran ss es m
            → (s : Start) → Nearest away s ps → nudges d mark eval s.u s.v ≡ false
            → (a : End) × Memᴰ a es × (le a.at.distance s.distance ≡ true)
        nearest-descends ps [] es m seen grid f r s h k = absurd (Memᴰ.not-nil (rw f at (nearest-member away h)))
        nearest-descends ps (q ∷ qs) es m seen grid f (next {e = e} p r) s h k =
            let same = nearest-only away f h in
            let l = start-descends q (all-at (Seen mark eval) seen (nearest-member away f)) (all-at (OnGrid mark eval us vs) grid (nearest-member away f)) (rw same k) in
            (e, Memᴰ.head refl, rw same at (rw p at l))

        -- an end among those of the starts stands, with its number, among the candidates
        numbered-at : (P : End → Type 0) {a : End} (i : ℕ) {es : List End} → Memᴰ a es → All (λ c. P c.end) (numbered i es) → P a
        unfolding numbered
        numbered-at P i (Memᴰ.head e) h = rw e h.0
        numbered-at P i (Memᴰ.tail m) h = numbered-at P (suc i) m h.1

        led-at : (P : End → Type 0) (b : Best) {a : End} {es : List End} → Memᴰ a es → All (λ c. P c.end) (led b (numbered 1 es)) → P a
        unfolding led
        led-at P Nothing m h = numbered-at P 1 m h
        led-at P (At e) m h = numbered-at P 1 m h.1

        nearest-start : (ps ss : List Start) → Fronted ps ss → 1 ≤ length ss → (s : Start) × Nearest away s ps
        nearest-start ps [] f h = absurd (omega arith)
        nearest-start ps (q ∷ qs) f h = (q, f)

        module _ {tolerance : Float} {hint : Hint} {e : Choice} {n : ℕ} (c : Chosen tolerance hint e n) where
          from-nearest : (s : Start) → Nearest away s c.points → nudges d mark eval s.u s.v ≡ false → (u v : Float) → Memᴰ u us → Memᴰ v vs → AsFar e.end u v
          from-nearest s h k u v mu mv =
              let f = nearest-descends c.points (starts_of c.points) c.others c.made (seen c) (rw c.whole at (survey-on-grid mark eval us vs)) (starts-fronted c.points (known c)) c.ran s h k in
              let a = f.0 in
              let least = nearest-least away (all-at (Number away) (known c) (nearest-member away h)) h in
              let g = survey-found mark eval us vs c.points (length us * length vs) c.whole u v mu mv in
              let j = g.0 in
              let point = rw c.whole at (survey-meets mark eval u v j g.1 us vs mu mv) in
              record {
                jet = j;
                found = g.1;
                far = le_trans (far e) a.at.distance (from_mark mark j) (led-at (λ b. le (far e) b.at.distance ≡ true) c.lead f.1 (end-least c))
                    (le_trans a.at.distance s.distance (from_mark mark j) f.2 (all-at _ least point));
              }

          -- "In the second case every grid point is at least as far as the pair, unless the run from the nearest, the first in the grid among equals, was nudged."
          pub grid-no-nearer : 1 ≤ length us → 1 ≤ length vs → NoNearer c.points e.end
          grid-no-nearer hu hv =
              let count = rw c.whole at (survey-counted mark eval us vs) in
              let some : 1 ≤ length us * length vs = mul-le-mul hu hv in
              let s = nearest-start c.points (starts_of c.points) (starts-fronted c.points (known c)) (starts-some c.points (omega (arith, count.0))) in
              record { nearest = s.0; first = nearest-first away s.1; beyond = from-nearest s.0 s.1 }
