-- Where the pair of an inversion in plain steps came from, for every evaluation function. Assumes nothing.
use Rattle.std.proofs.Math.Path.{◌≡◌, refl}
use Rattle.std.proofs.Common.{ap, arith, length-append}
use Rattle.std.specs.Prelude.{true, false, List, [], ◌∷◌, ◌++◌, ℕ, suc, ◌+◌, ◌≤◌, length, Float}
use mathlib.Core.List.Memᴰ
use Rattle.std.specs.Float.Ieee.{lt, is_nan}
use Rattle.vector3.specs.declared.Vector3.{Vector3}
use Rattle.price.specs.Price.{answered}
use Rattle.price.specs.PriceLaws.{Answers, answers-map}
use Rattle.patch.specs.declared.Jet.{Jet}
use Rattle.patch.specs.declared.Evaluated.{Evaluated}
use Rattle.patch.specs.declared.Evaluated.TheVariants.{Found}
use Rattle.patch.specs.Patch.{from_mark}
use Rattle.domain.specs.declared.Domain.{Domain}
use Rattle.newton.specs.declared.End.{End}
use Rattle.newton.specs.Run.{run}
use Rattle.shortlist.specs.declared.Start.{Start}
use Rattle.shortlist.specs.FirstSix.{starts_of}
use Rattle.seeds.specs.Visits.{grid_of, points_of}
use Rattle.seeds.specs.VisitLaws.{survey-grid}
use Rattle.inversion.specs.declared.Hint.{Hint}
use Rattle.inversion.specs.declared.Choice.{Choice}
use Rattle.inversion.specs.declared.Best.{Best}
use Rattle.inversion.specs.Inversion.{of_hint, numbered, led, plain_steps}
use Rattle.inversion.specs.Nearest.{All, Nearest, here, there, nearest-member}
use Rattle.inversion.proofs.InversionLaws.{far, Ran, none, next, Leads, nothing, from, Paired, taken, among, plain_steps-paired, nearest-end}

module _ (d : Domain) (mark : Vector3) (eval : Float → Float → Evaluated) where
  -- a run from (u, v) that has an end ends further away than c
  abbrev pub Beyond : Choice → Float → Float → Type 0
  Beyond c u v = (a : End) (n : ℕ) → run d mark eval u v ≡ answered a n → lt c.end.at.distance a.at.distance ≡ true

  -- the pair from which the run of a choice started. 0: the hint. A start's place, from 1 on: that start, and the hint's run and those from the starts before it end further away.
  pub data Origin (hint : Hint) (starts : List Start) (c : Choice) (u v : Float) : Type 0 where
    the-hint : hint ≡ Hint.At u v → c.origin ≡ 0 → Origin hint starts c u v
    the-start : (before : List Start) (s : Start) (after : List Start) → starts ≡ before ++ (s ∷ after) → u ≡ s.u → v ≡ s.v → c.origin ≡ 1 + length before
        → ((a b : Float) → hint ≡ Hint.At a b → Beyond c a b) → All (λ b. Beyond c b.u b.v) before → Origin hint starts c u v

  -- and its end is that of the run from there
  pub record From (hint : Hint) (starts : List Start) (c : Choice) : Type 0 where
    pub u : Float
    pub v : Float
    pub origin : Origin hint starts c u v
    pub made : ℕ
    pub ran : run d mark eval u v ≡ answered c.end made

  same_end : (c : Choice) (u v : Float) (e : End) (k : ℕ) → run d mark eval u v ≡ answered e k → lt c.end.at.distance e.at.distance ≡ true → Beyond c u v
  same_end c u v e k p l a n q = let z : a ≡ e = cc in rw z l

  -- ---- among the ends of the starts, the first of them in place i

  record FromStart (i : ℕ) (starts : List Start) (c : Choice) : Type 0 where
    before : List Start
    start : Start
    after : List Start
    made : ℕ
    parted : starts ≡ before ++ (start ∷ after)
    ran : run d mark eval start.u start.v ≡ answered c.end made
    place : c.origin ≡ i + length before
    sooner : All (λ b. Beyond c b.u b.v) before

  module _ (s : Start) (ss : List Start) (e : End) (k i : ℕ) (p : run d mark eval s.u s.v ≡ answered e k) (cs : List Choice) (rest : (c : Choice) → Nearest far c cs → FromStart (suc i) ss c) where
    start-from : (c : Choice) → Nearest far c (record { end = e; origin = i } ∷ cs) → FromStart i (s ∷ ss) c
    start-from c (here h) = record { before = []; start = s; after = ss; made = k; parted = refl; ran = p; place = omega arith; sooner = tt }
    start-from c (there l n) =
        let r = rest c n in
        record {
          before = s ∷ r.before;
          start = r.start;
          after = r.after;
          made = r.made;
          parted = ap (λ xs. s ∷ xs) r.parted;
          ran = r.ran;
          place = omega (arith, r.place);
          sooner = (same_end c s.u s.v e k p l, r.sooner);
        }

  starts_from : {ss : List Start} {es : List End} {m : ℕ} → Ran d mark eval ss es m → (i : ℕ) (c : Choice) → Nearest far c (numbered i es) → FromStart i ss c
  unfolding numbered
  starts_from none i c n = absurd (Memᴰ.not-nil (nearest-member far n))
  starts_from (next {s = s} {ss = ss} {e = e} {k = k} p r) i c n = start-from s ss e k i p _ (λ a m. starts_from r (suc i) a m) c n

  -- ---- the hint's before them

  module _ (ss : List Start) (hint : Hint) where
    after-hint : (c : Choice) → ((u v : Float) → hint ≡ Hint.At u v → Beyond c u v) → FromStart 1 ss c → From hint ss c
    after-hint c sooner r = record {
      u = r.start.u;
      v = r.start.v;
      origin = the-start r.before r.start r.after r.parted refl refl r.place sooner r.sooner;
      made = r.made;
      ran = r.ran;
    }

    hint-from : (u v : Float) → hint ≡ Hint.At u v → (e : End) (k : ℕ) → run d mark eval u v ≡ answered e k → (cs : List Choice) → ((c : Choice) → Nearest far c cs → FromStart 1 ss c)
        → (c : Choice) → Nearest far c (of_hint e ∷ cs) → From hint ss c
    hint-from u v h e k p cs rest c (here l) = record { u = u; v = v; origin = the-hint h refl; made = k; ran = p }
    hint-from u v h e k p cs rest c (there l n) =
        after-hint c (λ x y f. let a : u ≡ x = cc in let b : v ≡ y = cc in rw (← a, ← b) (same_end c u v e k p l)) (rest c n)

  led-from : {ss : List Start} {es : List End} {m : ℕ} → Ran d mark eval ss es m → {tolerance : Float} {hint : Hint} {b : Best} {k : ℕ} → Leads d mark eval tolerance hint b k
      → (c : Choice) → Nearest far c (led b (numbered 1 es)) → From hint ss c
  unfolding led
  led-from {ss = ss} r nothing c n = after-hint ss Hint.Nothing c (λ x y f. absurd (let z : ◌≡◌ {A = ℕ} 0 1 = cc in omega arith)) (starts_from r 1 c n)
  led-from {ss = ss} r (from {u = u} {v = v} {e = e} {k = k} p t) c n = hint-from ss (Hint.At u v) u v refl e k p _ (λ a m. starts_from r 1 a m) c n

  -- "or the start's 1 to 6"
  pub origin-most : {hint : Hint} {ss : List Start} {c : Choice} {u v : Float} → Origin hint ss c u v → length ss ≤ 6 → c.origin ≤ 6
  origin-most (the-hint h o) l = omega (arith, o)
  origin-most {ss = ss} (the-start before s after p e f o sooner all) l = omega (arith, o, l, simp length-append at (ap length p))

  -- no distance is a NaN
  module _ (us vs : List Float) (number : (u v : Float) (j : Jet) → eval u v ≡ Found j → is_nan (from_mark mark j) ≡ false) where
    abbrev pub starts : List Start
    starts = starts_of (points_of mark eval (grid_of us vs))

    paired-from : {tolerance : Float} {hint : Hint} {c : Choice} {n : ℕ} → Paired d mark eval us vs tolerance hint c n → From hint starts c
    paired-from (taken {u = u} {v = v} {n = n} p t) = record { u = u; v = v; origin = the-hint refl refl; made = n; ran = p }
    paired-from {c = c} (among h) =
        let g = rw h.whole at (survey-grid mark eval us vs) in
        rw g.points at (led-from h.ran h.leads c (nearest-end d mark eval us vs number h))

    -- "whether that run came from the hint or from which of the six starts": the pair, its distance and its end are those of the run from there, and no end of a smaller number is as near
    pub chosen-from : (hint : Hint) (tolerance : Float) → Answers (λ c n. From hint starts c) (plain_steps d mark eval us vs hint tolerance)
    chosen-from hint tolerance = answers-map (Paired d mark eval us vs tolerance hint) _ (λ c n p. paired-from p) (plain_steps d mark eval us vs hint tolerance) (plain_steps-paired d mark eval us vs tolerance hint)
