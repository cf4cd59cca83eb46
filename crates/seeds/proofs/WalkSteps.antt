-- The walk of the grid from where it stands. Assumes nothing.
use mathlib.Core.Path.{◌≡◌, sym, ap, subst, ◌∙◌}
use mathlib.Core.Bool.{false}
use mathlib.Core.List.{List, [], ◌∷◌}
use Prim.Native.Nat.{ℕ, ◌+◌, ◌≤◌, ◌<◌}
use native.Mathlib.Omega.{arith}
use native.Mathlib.Nat.{zero-add, add-zero}
use native.Mathlib.Numerals.{add-one}
use lib.ListN.{length, get_or, take, drop, drop_of_length-le}
use lib.Seq.{drop-cons, length-take-le, get_or-take}
use lib.Ieee.{Float, nan, is_nan}
use Rattle.vector3.specs.declared.Vector3.{Vector3}
use Rattle.vector3.specs.Vector3.{distance}
use Rattle.price.specs.Price.{Priced, refused, answered, price, after, mapped, spend}
use Rattle.price.specs.PriceLaws.{Answers, spend-enough, spend-short, after-price, mapped-price}
use Rattle.patch.specs.declared.Jet.{Jet}
use Rattle.patch.specs.declared.Evaluated.{Evaluated}
use Rattle.patch.specs.declared.Evaluated.TheVariants.{Found, Refused}
use Rattle.patch.specs.Patch.{from_mark}
use Rattle.shortlist.specs.declared.Start.{Start}
use Rattle.shortlist.specs.declared.Shortlist.{Shortlist}
use Rattle.seeds.specs.declared.Walked.{Walked}
use Rattle.shortlist.specs.FirstSix.{start_at, starts_of}
use Rattle.seeds.specs.Grid.{seen, row_of, survey}
use Rattle.seeds.specs.GridLaws.{survey-surveys}
use Rattle.shortlist.specs.Insert.{starts_in, Sound, kept, kept_from}
use Rattle.shortlist.specs.StartLaws.{Numbers, none, more, starts-are-first-six}
use Rattle.seeds.specs.Walk.{walked_of}

-- ---- a survey after n evaluations, where ss are kept and the rest is to be seen

abbrev resumed : ℕ → List Start → Priced (List Start) → Priced (List Start)
resumed n ss rest = after n (mapped (kept_from ss) rest)

resumed-first : (s : Priced (List Start)) → Answers (λ ps n. Numbers ps) s → mapped starts_of s ≡ resumed 0 [] s
unfolding after mapped
resumed-first (refused k) h = simp zero-add
resumed-first (answered ps k) h = simp (zero-add, starts-are-first-six ps h)

module _ (mark : Vector3) (eval : Float → Float → Evaluated) (n : ℕ) (ss : List Start) (x y : Float) (rest : Priced (List Start)) where
  resumed-found : (j : Jet) → resumed n ss (seen mark eval rest x y (Found j)) ≡ resumed (n + 1) (kept (start_at (distance j.point mark) x y) ss) rest
  unfolding seen after mapped kept_from from_mark
  resumed-found j = by rest
    where
      by : (s : Priced (List Start)) → resumed n ss (seen mark eval s x y (Found j)) ≡ resumed (n + 1) (kept (start_at (distance j.point mark) x y) ss) s
      by (refused k) = let e : n + (1 + k) ≡ n + 1 + k = omega arith in simp e
      by (answered ps k) = let e : n + (1 + k) ≡ n + 1 + k = omega arith in simp e

  -- it has a price
  resumed-most : (e : Evaluated) → n < price (resumed n ss (seen mark eval rest x y e))
  unfolding seen
  resumed-most Refused = omega (arith, after-price n (mapped (kept_from ss) (refused 1)), mapped-price (kept_from ss) (refused 1))
  resumed-most (Found j) =
      let s = mapped (λ ps. start_at (from_mark mark j) x y ∷ ps) rest in
      omega (arith, after-price n (mapped (kept_from ss) (after 1 s)), mapped-price (kept_from ss) (after 1 s), after-price 1 s)

-- ---- the loops

-- a walk: `us` and `vs` begin with its values
pub record Tour : Type 0 where
  pub mark : Vector3
  pub eval : Float → Float → Evaluated
  pub us : List Float
  pub vs : List Float
  pub rows : ℕ
  pub columns : ℕ
  pub budget : ℕ

module _ (t : Tour) where
  abbrev across : List Float
  across = take t.columns t.vs

  -- the rows from i on; and what is left of row i from j on, with the rows after it
  abbrev rows_from : ℕ → Priced (List Start)
  rows_from i = survey t.mark t.eval (drop i (take t.rows t.us)) across

  abbrev rest_from : ℕ → ℕ → Priced (List Start)
  rest_from i j = row_of t.mark t.eval (get_or t.us i nan) (drop j across) (rows_from (i + 1))

  abbrev whole : Priced (List Start)
  whole = mapped starts_of (rows_from 0)

  -- what holds between two evaluations
  pub record Stands (taken : ℕ) (n : Shortlist) (rest : Priced (List Start)) : Type 0 where
    us : t.rows ≤ length t.us
    vs : t.columns ≤ length t.vs
    pub within : taken ≤ t.budget
    pub sound : Sound n
    goes : whole ≡ resumed taken (starts_in n.starts) rest

  -- before row i
  pub record AtRow (i taken : ℕ) (n : Shortlist) : Type 0 where
    pub row : i ≤ t.rows
    stands : Stands taken n (rows_from i)

  -- before the point of row i and column j
  pub record AtPoint (i j taken : ℕ) (n : Shortlist) : Type 0 where
    pub row : i < t.rows
    pub column : j ≤ t.columns
    pub stands : Stands taken n (rest_from i j)

  -- w is what the walk is to answer
  abbrev Answer : Walked → Type 0
  Answer w = (walked_of w ≡ spend t.budget whole) × (w.starts.count ≤ 6)

  abbrev point : ℕ → ℕ → Evaluated
  point i j = t.eval (get_or t.us i nan) (get_or t.vs j nan)

module _ {t : Tour} where
  pub walk_begins : ((x y : Float) (j : Jet) → t.eval x y ≡ Found j → is_nan (from_mark t.mark j) ≡ false) → t.rows ≤ length t.us → t.columns ≤ length t.vs
      → (n : Shortlist) → (starts_in n.starts ≡ []) × Sound n → AtRow t 0 0 n
  walk_begins number us vs n h = record {
    row = omega arith;
    stands = record {
      us = us;
      vs = vs;
      within = omega arith;
      sound = h.1;
      goes = rw h.0 (resumed-first (rows_from t 0) (survey-surveys t.mark t.eval Numbers (λ x y j p ps r. more (number x y j p) r) none (take t.rows t.us) (across t)));
    };
  }

  module _ {i taken : ℕ} {n : Shortlist} (h : AtRow t i taken n) where
    pub row-begins : i < t.rows → AtPoint t i 0 taken n
    unfolding survey
    row-begins l = record { row = l; column = omega arith; stands = subst (Stands t taken n) same h.stands }
      where
        same : rows_from t i ≡ rest_from t i 0
        same =
            let q : i < length (take t.rows t.us) = omega (arith, length-take-le t.rows t.us h.stands.us) in
            rw (add-one i, drop-cons (take t.rows t.us) i nan q, get_or-take t.rows t.us i nan l)

    pub grid-ends : t.rows ≤ i → {w : Walked} → w ≡ record { refusal = 0; taken = taken; starts = n.starts } → Answer t w
    unfolding survey walked_of after mapped kept_from
    grid-ends l e = rw e (sym (ap (spend t.budget) all ∙ spend-enough t.budget _ h.stands.within), h.stands.sound.six)
      where
        over : rows_from t i ≡ answered [] 0
        over =
            let q : length (take t.rows t.us) ≤ i = omega (arith, length-take-le t.rows t.us h.stands.us) in
            simp (drop_of_length-le (take t.rows t.us) q)

        all : whole t ≡ answered (starts_in n.starts) taken
        all = h.stands.goes ∙ simp (over, add-zero)

  module _ {i j taken : ℕ} {n : Shortlist} (h : AtPoint t i j taken n) where
    pub row_ends : t.columns ≤ j → AtRow t (i + 1) taken n
    unfolding row_of
    row_ends l = record { row = omega (arith, h.row); stands = subst (Stands t taken n) same h.stands }
      where
        same : rest_from t i j ≡ rows_from t (i + 1)
        same =
            let q : length (across t) ≤ j = omega (arith, length-take-le t.columns t.vs h.stands.vs) in
            simp (drop_of_length-le (across t) q)

    module _ (l : j < t.columns) where
      abbrev next : Evaluated → Priced (List Start)
      next = seen t.mark t.eval (rest_from t i (j + 1)) (get_or t.us i nan) (get_or t.vs j nan)

      goes : whole t ≡ resumed taken (starts_in n.starts) (next (point t i j))
      unfolding row_of
      goes =
          let q : j < length (across t) = omega (arith, length-take-le t.columns t.vs h.stands.vs) in
          h.stands.goes ∙ rw (add-one j, drop-cons (across t) j nan q, get_or-take t.columns t.vs j nan l)

      pub row-spent : taken ≡ t.budget → {w : Walked} → w ≡ record { refusal = 8; taken = taken; starts = n.starts } → Answer t w
      unfolding walked_of
      row-spent b e =
          let above = resumed-most t.mark t.eval taken (starts_in n.starts) (get_or t.us i nan) (get_or t.vs j nan) (rest_from t i (j + 1)) (point t i j) in
          rw e (sym (ap (spend t.budget) goes ∙ spend-short t.budget _ (omega arith)), h.stands.sound.six)

      module _ (unit : taken ≡ t.budget → ⊥) where
        pub row-refused : point t i j ≡ Refused → {w : Walked} → w ≡ record { refusal = 9; taken = taken + 1; starts = n.starts } → Answer t w
        unfolding walked_of seen after mapped
        row-refused r e = rw e (sym (ap (spend t.budget) stops ∙ spend-enough t.budget _ (omega (arith, h.stands.within))), h.stands.sound.six)
          where
            stops : whole t ≡ refused (taken + 1)
            stops = goes ∙ simp r

        -- p is the point of the jet f, and taken in
        pub row_goes : (f : Jet) → point t i j ≡ Found f → {p : Vector3} → p ≡ f.point → {m : Shortlist}
            → (starts_in m.starts ≡ kept (start_at (distance p t.mark) (get_or t.us i nan) (get_or t.vs j nan)) (starts_in n.starts)) × Sound m → AtPoint t i (j + 1) (taken + 1) m
        row_goes f r e k = record {
          row = h.row;
          column = omega arith;
          stands = record {
            us = h.stands.us;
            vs = h.stands.vs;
            within = omega (arith, h.stands.within);
            sound = k.1;
            goes = goes ∙ rw (r, k.0, e) (resumed-found t.mark t.eval taken (starts_in n.starts) (get_or t.us i nan) (get_or t.vs j nan) (rest_from t i (j + 1)) f);
          };
        }
