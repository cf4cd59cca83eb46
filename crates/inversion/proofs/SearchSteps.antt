-- The search from where it stands: what is left is the runs from the starts that are left, led by the end that is kept. Assumes nothing.
use mathlib.Core.Path.{◌≡◌, refl, sym, ap, ◌∙◌}
use mathlib.Core.Bool.{true, false}
use mathlib.Core.List.{List, [], ◌∷◌}
use Prim.Native.Nat.{ℕ, suc, ◌+◌, ◌-◌, ◌≤◌, ◌<◌}
use native.Mathlib.Omega.{arith}
use native.Mathlib.Nat.{add-zero}
use native.Mathlib.Numerals.{add-one}
use lib.ListN.{length, get_or, take, drop, drop_of_length-le}
use lib.Seq.{drop-cons, length-take-le, get_or-take}
use lib.Ieee.{Float, nan, lt}
use Rattle.vector3.specs.declared.Vector3.{Vector3}
use Rattle.price.specs.Price.{Priced, refused, answered, price, after, mapped, ◌then◌, spend}
use Rattle.price.specs.PriceLaws.{spend-enough, spend-short, after-price, after_none, after-after, after_then, mapped-then, then_same, then-least}
use Rattle.patch.specs.declared.Evaluated.{Evaluated}
use Rattle.domain.specs.declared.Domain.{Domain}
use Rattle.newton.specs.declared.End.{End}
use Rattle.newton.specs.declared.Finished.{Finished}
use Rattle.newton.specs.declared.Outcome.{Outcome}
use Rattle.newton.specs.declared.Outcome.TheVariants.{Ended, Refused, Spent}
use Rattle.newton.specs.Run.{finished, run, outcome_of}
use Rattle.newton.specs.OutcomeLaws.{spent-run, refused-run, ended-run}
use Rattle.shortlist.specs.declared.Start.{Start}
use Rattle.shortlist.specs.FirstSix.{start_at}
use Rattle.inversion.specs.declared.Choice.{Choice}
use Rattle.inversion.specs.declared.Best.{Best}
use Rattle.inversion.specs.declared.Best.TheVariants.{Nothing, At}
use Rattle.inversion.specs.declared.Answer.{Answer}
use Rattle.inversion.specs.Inversion.{numbered, nearer, nearest_of, led, choose, runs, searched, kept, answer_of}

-- ---- what a budget makes of it

module _ (budget : ℕ) where
  pub chosen-told : (c : Choice) (n : ℕ) → n ≤ budget → Answer.Chosen c n ≡ answer_of (spend budget (answered c n))
  unfolding answer_of
  chosen-told c n h = rw (spend-enough budget (answered c n) h)

  pub refusal-told : (n : ℕ) → n ≤ budget → Answer.Refused n ≡ answer_of (spend budget (refused n))
  unfolding answer_of
  refusal-told n h = rw (spend-enough {A = Choice} budget (refused n) h)

  pub too-dear : (r : Priced Choice) → budget < price r → Answer.Spent ≡ answer_of (spend budget r)
  unfolding answer_of
  too-dear r h = rw (spend-short budget r h)

-- ---- what is kept

module _ (b : Best) (c : Choice) where
  pub keeps-first : b ≡ Nothing → At c ≡ kept b c
  unfolding kept
  keeps-first f = rw f

  module _ (a : Choice) (f : b ≡ At a) where
    pub keeps-nearer : lt c.end.at.distance a.end.at.distance ≡ true → At c ≡ kept b c
    unfolding kept nearer
    keeps-nearer t = rw (f, t)

    pub keeps-earlier : lt c.end.at.distance a.end.at.distance ≡ false → At a ≡ kept b c
    unfolding kept nearer
    keeps-earlier t = rw (f, t)

-- it leads those that follow
kept-leads : (k : ℕ) (c : Choice) (b : Best) (cs : List Choice) → choose k (led b (c ∷ cs)) ≡ choose k (led (kept b c) cs)
unfolding choose led kept nearest_of
kept-leads k c Nothing cs = refl
kept-leads k c (At a) cs = refl

-- ---- no run more

module _ (b : Best) (n more budget : ℕ) (within : n ≤ budget) where
  abbrev last : Priced Choice
  last = after n (choose more (led b []))

  pub concludes-none : b ≡ Nothing → Answer.Refused n ≡ answer_of (spend budget last)
  unfolding led choose after
  concludes-none f = rw f (simp add-zero (refusal-told budget n within))

  module _ (c : Choice) (f : b ≡ At c) where
    at_last : last ≡ answered c (n + more)
    unfolding led choose nearest_of after
    at_last = rw f

    pub concludes-short : budget - n < more → Answer.Spent ≡ answer_of (spend budget last)
    concludes-short h = too-dear budget last (rw at_last (omega arith))

    pub concludes-end : more ≤ budget - n → Answer.Chosen c (n + more) ≡ answer_of (spend budget last)
    concludes-end h = rw at_last (chosen-told budget c (n + more) (omega arith))

-- ---- the loop

-- what a list answers past its end
abbrev none : Start
none = start_at nan nan nan

module _ (d : Domain) (mark : Vector3) (eval : Float → Float → Evaluated) where
  abbrev run_from : Start → Priced End
  run_from s = run d mark eval s.u s.v

  abbrev outcome_from : ℕ → Start → Outcome
  outcome_from budget s = outcome_of (spend budget (finished d mark eval s.u s.v))

  -- the run from the start in place i, and those after it
  module _ (b : Best) (k i : ℕ) (s : Start) (ss : List Start) where
    run-least : price (run_from s) ≤ price (searched d mark eval b k i (s ∷ ss))
    unfolding searched runs
    run-least =
        let rest : End → Priced (List End) = λ e. mapped (λ es. e ∷ es) (runs d mark eval ss) in
        omega (arith, then-least (run_from s) rest, then-least (run_from s then rest) (λ (es : List End). choose k (led b (numbered i es))))

    run-refuses : (n : ℕ) → run_from s ≡ refused n → searched d mark eval b k i (s ∷ ss) ≡ refused n
    unfolding searched runs ◌then◌
    run-refuses n p = rw p

    ran : (e : End) (n : ℕ) → run_from s ≡ answered e n → (run_from s then λ a. mapped (λ es. a ∷ es) (runs d mark eval ss)) ≡ after n (mapped (λ es. e ∷ es) (runs d mark eval ss))
    unfolding ◌then◌
    ran e n p = rw p

    -- its end is weighed against what is kept
    run_ends : (e : End) (n : ℕ) → run_from s ≡ answered e n → searched d mark eval b k i (s ∷ ss) ≡ after n (searched d mark eval (kept b (record { end = e; origin = i })) k (suc i) ss)
    unfolding searched runs numbered
    run_ends e n p =
        let f : List End → Priced Choice = λ es. choose k (led b (numbered i es)) in
        let rest : Priced (List End) = mapped (λ es. e ∷ es) (runs d mark eval ss) in
        ap (λ (r : Priced (List End)). r then f) (ran e n p)
        ∙ after_then n rest f
        ∙ ap (after n) (mapped-then (λ es. e ∷ es) (runs d mark eval ss) f ∙ then_same _ _ (λ es. kept-leads k (record { end = e; origin = i }) b (numbered (suc i) es)) (runs d mark eval ss))

  -- the steps a with n units taken and the nearest kept, where the starts from i on are left
  pub record Stands (a : Priced Choice) (at : List Start) (count budget k n : ℕ) (b : Best) (i : ℕ) : Type 0 where
    pub fit : count ≤ length at
    pub within : n ≤ budget
    pub whole : a ≡ after n (searched d mark eval b k (i + 1) (drop i (take count at)))

  module _ {a : Priced Choice} {at : List Start} {count budget k n : ℕ} {b : Best} {i : ℕ} (s : Stands a at count budget k n b i) where
    pub search-ends : {r : Answer} → i ≡ count → r ≡ answer_of (spend budget (after n (choose k (led b [])))) → r ≡ answer_of (spend budget a)
    unfolding searched runs numbered ◌then◌
    search-ends l e =
        let q : length (take count at) ≤ i = omega (arith, length-take-le count at s.fit) in
        e ∙ ap (λ (p : Priced Choice). answer_of (spend budget p)) (sym (s.whole ∙ ap (after n) (ap (searched d mark eval b k (i + 1)) (drop_of_length-le (take count at) q) ∙ after_none (choose k (led b [])))))

    module _ (l : i < count) {o : Outcome} (e : o ≡ outcome_from (budget - n) (get_or at i none)) where
      abbrev rest : List Start
      rest = drop (i + 1) (take count at)

      next : a ≡ after n (searched d mark eval b k (i + 1) (get_or at i none ∷ rest))
      next =
          let q : i < length (take count at) = omega (arith, length-take-le count at s.fit) in
          s.whole ∙ rw (add-one i, drop-cons (take count at) i none q, get_or-take count at i none l)

      pub search-spent : o ≡ Spent → Answer.Spent ≡ answer_of (spend budget a)
      search-spent f =
          too-dear budget a (rw next (omega (arith, spent-run d mark eval _ _ (budget - n) e f, run-least b k (i + 1) (get_or at i none) rest, after-price n (searched d mark eval b k (i + 1) (get_or at i none ∷ rest)))))

      pub run_fits : (m : ℕ) → o ≡ Refused m → n + m ≤ budget
      run_fits m f = omega (arith, s.within, refused-run d mark eval _ _ (budget - n) e m f)

      pub search-refused : (m : ℕ) → o ≡ Refused m → Answer.Refused (n + m) ≡ answer_of (spend budget a)
      unfolding after
      search-refused m f =
          let p = refused-run d mark eval _ _ (budget - n) e m f in
          rw (next, run-refuses b k (i + 1) (get_or at i none) rest m p.0) (refusal-told budget (n + m) (run_fits m f))

      pub end_fits : (c : Finished) (m : ℕ) → o ≡ Ended c m → n + m ≤ budget
      end_fits c m f = omega (arith, s.within, ended-run d mark eval _ _ (budget - n) e c m f)

      pub search-goes : (c : Finished) (m : ℕ) → o ≡ Ended c m → {b' : Best} → b' ≡ kept b (record { end = c.end; origin = i + 1 }) → Stands a at count budget k (n + m) b' (i + 1)
      search-goes c m f g =
          let p = ended-run d mark eval _ _ (budget - n) e c m f in
          record {
            fit = s.fit;
            within = end_fits c m f;
            whole = next ∙ ap (after n) (run_ends b k (i + 1) (get_or at i none) rest c.end m p.0) ∙ after-after n m _ ∙ rw (g, add-one (i + 1));
          }
