-- The starts kept by insertion as the grid is walked are the first six of all its points, sorted by distance, of equal distances only the first. Assumes nothing.
use Rattle.std.specs.Prelude.{◌≡◌, Bool, ℕ, zero, suc, get_or}
use Rattle.std.proofs.Math.Path.{refl, sym, ap}
use Rattle.std.proofs.Common.{◌∙◌, ⊎_elim, true≢false, take-take}
use Rattle.std.proofs.Math.Bool.{true, false, cond, and-false}
use mathlib.Core.List.{List, [], ◌∷◌}
use native.Mathlib.Omega.{arith}
use Rattle.std.proofs.Math.ListN.{length, take}
use Rattle.std.proofs.Math.Seq.{take-length}
use Rattle.std.specs.Float.Ieee.{le, eq, is_nan}
use Rattle.float64.specs.Order.{never, agree, le_trans, le_total, le_antisym, le→number, eq→le, eq-le-le, eq-sym, eq_trans}
use Rattle.shortlist.specs.declared.Start.{Start}
use Rattle.shortlist.specs.FirstSix.{insert, sorted, apart_from, apart, starts_of}
use Rattle.shortlist.specs.Insert.{Rising, empty, single, before, insert_unique, kept, kept_from}

-- every distance is a number
pub data Numbers : List Start → Type 0 where
  none : Numbers []
  more : {p : Start} {ps : List Start} → is_nan p.distance ≡ false → Numbers ps → Numbers (p ∷ ps)

-- p is no further than q
abbrev pub near : Start → Start → Bool
near p q = le p.distance q.distance

-- p is as far as q
abbrev pub level : Start → Start → Bool
level p q = eq p.distance q.distance

-- ---- what tests say of other tests
pub near-trans : (p q r : Start) → near p q ≡ true → near q r ≡ true → near p r ≡ true
near-trans p q r = le_trans p.distance q.distance r.distance

pub level-sym : (p q : Start) → level p q ≡ level q p
level-sym p q = eq-sym p.distance q.distance

pub level-near : (p q : Start) → level p q ≡ true → near p q ≡ true
level-near p q = eq→le p.distance q.distance

pub not-level : (p q : Start) → near q p ≡ false → level p q ≡ false
not-level p q h = eq-le-le p.distance q.distance ∙ simp (h, and-false)

module _ (p q r : Start) where
  not-near : near p q ≡ true → near p r ≡ false → near q r ≡ false
  not-near h k = never (near q r) (λ g. true≢false (sym (near-trans p q r h g) ∙ k))

  pub level-same : level p q ≡ true → level p r ≡ level q r
  level-same h =
      agree _ _ (eq_trans q.distance p.distance r.distance (level-sym q p ∙ h)) (eq_trans p.distance q.distance r.distance h)

  near_same : level p q ≡ true → near p r ≡ near q r
  near_same h = agree _ _ (near-trans q p r (level-near q p (level-sym q p ∙ h))) (near-trans p q r (level-near p q h))

-- ---- sorted from the end of the grid: an earlier point stands in the place of the one that is as far
insert_first : Start → List Start → List Start
insert_first p [] = p ∷ []
insert_first p (q ∷ qs) = cond (near p q) (p ∷ cond (level p q) qs (q ∷ qs)) (q ∷ insert_first p qs)

-- what `apart` leaves after p
others : Start → List Start → List Start
others p [] = []
others p (q ∷ qs) = cond (level p q) (others p qs) (apart_from q qs)

apart-others : (p : Start) (qs : List Start) → apart_from p qs ≡ p ∷ others p qs
unfolding apart_from others
apart-others p [] = refl
apart-others p (q ∷ qs) = by (level p q) (apart-others p qs)
  where
    by : (t : Bool) → apart_from p qs ≡ p ∷ others p qs → cond t (apart_from p qs) (p ∷ apart_from q qs) ≡ p ∷ cond t (others p qs) (apart_from q qs)
    by true rest = rest
    by false rest = refl

others_same : (p q : Start) (rs : List Start) → level p q ≡ true → others p rs ≡ others q rs
unfolding others
others_same p q [] h = refl
others_same p q (r ∷ rs) h = simp (level-same p q r h, others_same p q rs h)

-- p before what is not nearer, and after what is
apart-before : (p q : Start) (qs : List Start) → near p q ≡ true → apart_from p (q ∷ qs) ≡ insert_first p (apart_from q qs)
unfolding apart_from insert_first
apart-before p q qs h = rw (apart-others q qs, h) (by (level p q) refl)
  where
    by : (t : Bool) → level p q ≡ t → cond t (apart_from p qs) (p ∷ q ∷ others q qs) ≡ p ∷ cond t (others q qs) (q ∷ others q qs)
    by true k = apart-others p qs ∙ ap (λ (l : List Start). p ∷ l) (others_same p q qs k)
    by false k = refl

apart-after : (p q : Start) (rs : List Start) → near p q ≡ false → others q (insert p rs) ≡ insert_first p (others q rs)
    → apart_from q (insert p rs) ≡ insert_first p (apart_from q rs)
unfolding insert_first
apart-after p q rs h rest = rw (apart-others q (insert p rs), apart-others q rs, h) (ap (λ (l : List Start). q ∷ l) rest)

others-after : (p q : Start) (rs : List Start) → near p q ≡ false → others q (insert p rs) ≡ insert_first p (others q rs)
unfolding insert others insert_first apart_from
others-after p q [] h = simp (not-level q p h)
others-after p q (r ∷ rs) h = by (near p r) refl (others-after p q rs h) (λ k. apart-after p r rs k (others-after p r rs k))
  where
    by : (t : Bool) → near p r ≡ t → others q (insert p rs) ≡ insert_first p (others q rs)
        → (near p r ≡ false → apart_from r (insert p rs) ≡ insert_first p (apart_from r rs))
        → others q (cond t (p ∷ r ∷ rs) (r ∷ insert p rs)) ≡ insert_first p (others q (r ∷ rs))
    by true k same next = simp (not-level q p h, not-level q r (not-near p r q k h)) (apart-before p r rs k)
    by false k same next = passed (level q r)
      where
        passed : (t : Bool) → cond t (others q (insert p rs)) (apart_from r (insert p rs)) ≡ insert_first p (cond t (others q rs) (apart_from r rs))
        passed true = same
        passed false = next k

apart-insert : (p : Start) (ss : List Start) → apart (insert p ss) ≡ insert_first p (apart ss)
unfolding insert apart insert_first apart_from
apart-insert p [] = refl
apart-insert p (q ∷ qs) = by (near p q) refl
  where
    by : (t : Bool) → near p q ≡ t → apart (cond t (p ∷ q ∷ qs) (q ∷ insert p qs)) ≡ insert_first p (apart_from q qs)
    by true k = apart-before p q qs k
    by false k = apart-after p q qs k (others-after p q qs k)

-- ---- an earlier point q and a later one p may be put in either way round
abbrev Either : Start → Start → List Start → Type 0
Either p q ss = insert_first q (insert_unique p ss) ≡ insert_unique p (insert_first q ss)

module _ (p q : Start) where
  -- q is the nearer
  module _ (h : near q p ≡ true) (k : near p q ≡ false) where
    nearer-goes : (r : Start) (rs : List Start) → Either p q rs → Either p q (r ∷ rs)
    unfolding insert_first insert_unique
    nearer-goes r rs rest = by (near q r) (near p r) (level q r) (level p r) refl refl refl refl
      where
        by : (s t u v : Bool) → near q r ≡ s → near p r ≡ t → level q r ≡ u → level p r ≡ v
            → insert_first q (cond t (cond v (r ∷ rs) (p ∷ r ∷ rs)) (r ∷ insert_unique p rs)) ≡ insert_unique p (cond s (q ∷ cond u rs (r ∷ rs)) (r ∷ insert_first q rs))
        by true true true v a b c d = absurd (true≢false (sym c ∙ not-level q r (not-near p r q b k)))
        by true true false true a b c d = simp (a, b, c, d, k)
        by true true false false a b c d = simp (a, b, c, d, h, k, not-level q p k)
        by true false true v a b c d = simp (a, c, k)
        by true false false v a b c d = simp (a, b, c, d, k)
        by false true u v a b c d = absurd (true≢false (sym (near-trans q p r h b) ∙ a))
        by false false u v a b c d = simp (a, b, c, d, rest)

    nearer : (ss : List Start) → Either p q ss
    unfolding insert_first insert_unique
    nearer [] = simp (h, k, not-level q p k)
    nearer (r ∷ rs) = nearer-goes r rs (nearer rs)

  -- both are as far
  module _ (h : level q p ≡ true) where
    same-goes : (r : Start) (rs : List Start) → Either p q rs → Either p q (r ∷ rs)
    unfolding insert_first insert_unique
    same-goes r rs rest = by (near p r) (level p r) refl refl
      where
        by : (s t : Bool) → near p r ≡ s → level p r ≡ t
            → insert_first q (cond s (cond t (r ∷ rs) (p ∷ r ∷ rs)) (r ∷ insert_unique p rs)) ≡ insert_unique p (cond (near q r) (q ∷ cond (level q r) rs (r ∷ rs)) (r ∷ insert_first q rs))
        by true true a b = simp (near_same q p r h, level-same q p r h, a, b, level-sym p q, h, level-near p q (level-sym p q ∙ h))
        by true false a b = simp (near_same q p r h, level-same q p r h, a, b, level-sym p q, h, level-near p q (level-sym p q ∙ h), level-near q p h)
        by false t a b = simp (near_same q p r h, a, rest)

    same : (ss : List Start) → Either p q ss
    unfolding insert_first insert_unique
    same [] = simp (level-sym p q, h, level-near p q (level-sym p q ∙ h), level-near q p h)
    same (r ∷ rs) = same-goes r rs (same rs)

  -- p is the nearer
  module _ (h : near p q ≡ true) (k : near q p ≡ false) where
    further-goes : (r : Start) (rs : List Start) → Either p q rs → Either p q (r ∷ rs)
    unfolding insert_first insert_unique
    further-goes r rs rest = by (near q r) (near p r) (level p r) refl refl refl
      where
        by : (s t u : Bool) → near q r ≡ s → near p r ≡ t → level p r ≡ u
            → insert_first q (cond t (cond u (r ∷ rs) (p ∷ r ∷ rs)) (r ∷ insert_unique p rs)) ≡ insert_unique p (cond s (q ∷ cond (level q r) rs (r ∷ rs)) (r ∷ insert_first q rs))
        by true true true a b c = absurd (true≢false (sym (near-trans q r p a (level-near r p (level-sym r p ∙ c))) ∙ k))
        by true true false a b c = simp (a, h, k, not-level p q k)
        by true false u a b c = absurd (true≢false (sym (near-trans p q r h a) ∙ b))
        by false true true a b c = simp (a, b, c)
        by false true false a b c = simp (a, b, c, k)
        by false false u a b c = simp (a, b, rest)

    further : (ss : List Start) → Either p q ss
    unfolding insert_first insert_unique
    further [] = simp (h, k, not-level p q k)
    further (r ∷ rs) = further-goes r rs (further rs)

  either : is_nan p.distance ≡ false → is_nan q.distance ≡ false → (ss : List Start) → Either p q ss
  either n m ss = by (near q p) (near p q) refl refl
    where
      by : (s t : Bool) → near q p ≡ s → near p q ≡ t → Either p q ss
      by true true a b = same (le_antisym q.distance p.distance a b) ss
      by true false a b = nearer a b ss
      by false true a b = further b a ss
      by false false a b = ⊎_elim (λ c. absurd (true≢false (sym c ∙ b))) (λ c. absurd (true≢false (sym c ∙ a))) (le_total p.distance q.distance n m)

-- ---- the points of a grid in its order, put in one after the other, with no cut
insert_all : List Start → List Start → List Start
insert_all ss [] = ss
insert_all ss (p ∷ ps) = insert_all (insert_unique p ss) ps

earlier : (q : Start) → is_nan q.distance ≡ false → (ps : List Start) → Numbers ps → (ss : List Start) → insert_all (insert_first q ss) ps ≡ insert_first q (insert_all ss ps)
unfolding insert_all
earlier q m [] none ss = refl
earlier q m (p ∷ ps) (more n ns) ss =
    ap (λ (l : List Start). insert_all l ps) (sym (either p q n m ss)) ∙ earlier q m ps ns (insert_unique p ss)

all_apart : (ps : List Start) → Numbers ps → insert_all [] ps ≡ apart (sorted ps)
unfolding insert_all sorted apart insert_first insert_unique
all_apart [] none = refl
all_apart (p ∷ ps) (more n ns) =
    earlier p n ps ns [] ∙ ap (insert_first p) (all_apart ps ns) ∙ sym (apart-insert p (sorted ps))

-- ---- the cut: what falls out never comes back
cut : (n : ℕ) (p : Start) (ss : List Start) → take n (insert_unique p (take n ss)) ≡ take n (insert_unique p ss)
unfolding insert_unique
cut zero p ss = refl
cut (suc n) p [] = refl
cut (suc n) p (q ∷ qs) = by (near p q) (level p q) (cut n p qs)
  where
    by : (t u : Bool) → take n (insert_unique p (take n qs)) ≡ take n (insert_unique p qs)
        → take (suc n) (cond t (cond u (q ∷ take n qs) (p ∷ q ∷ take n qs)) (q ∷ insert_unique p (take n qs))) ≡ take (suc n) (cond t (cond u (q ∷ qs) (p ∷ q ∷ qs)) (q ∷ insert_unique p qs))
    by true true rest = ap (λ (l : List Start). q ∷ l) (take-take n n qs (omega arith))
    by true false rest = ap (λ (l : List Start). p ∷ l) (take-take n (suc n) (q ∷ qs) (omega arith))
    by false u rest = ap (λ (l : List Start). q ∷ l) rest

kept-cut : (ps ss : List Start) → kept_from (take 6 ss) ps ≡ take 6 (insert_all ss ps)
unfolding insert_all kept kept_from
kept-cut [] ss = refl
kept-cut (p ∷ ps) ss = ap (λ (l : List Start). kept_from l ps) (cut 6 p ss) ∙ kept-cut ps (insert_unique p ss)

pub starts-are-first-six : (ps : List Start) → Numbers ps → kept_from [] ps ≡ starts_of ps
unfolding starts_of
starts-are-first-six ps ns = kept-cut ps [] ∙ ap (take 6) (all_apart ps ns)

-- ---- what is kept rises, so that a point no nearer than the last of six changes nothing
module _ (p : Start) (n : is_nan p.distance ≡ false) where
  rising-after : (q r : Start) (rs : List Start) → near q p ≡ true → near q r ≡ true → Rising (insert_unique p (r ∷ rs)) → Rising (q ∷ insert_unique p (r ∷ rs))
  unfolding insert_unique
  rising-after q r rs h k = by (near p r) (level p r)
    where
      by : (t u : Bool) → Rising (cond t (cond u (r ∷ rs) (p ∷ r ∷ rs)) (r ∷ insert_unique p rs)) → Rising (q ∷ cond t (cond u (r ∷ rs) (p ∷ r ∷ rs)) (r ∷ insert_unique p rs))
      by true true rest = before k rest
      by true false rest = before h rest
      by false u rest = before k rest

  rising-place : (q : Start) (qs : List Start) → is_nan q.distance ≡ false → Rising (q ∷ qs) → (near q p ≡ true → Rising (q ∷ insert_unique p qs)) → Rising (insert_unique p (q ∷ qs))
  unfolding insert_unique
  rising-place q qs m r rest = by (near p q) (level p q) refl
    where
      by : (t u : Bool) → near p q ≡ t → Rising (cond t (cond u (q ∷ qs) (p ∷ q ∷ qs)) (q ∷ insert_unique p qs))
      by true true h = r
      by true false h = before h r
      by false u h = rest (⊎_elim (λ k. absurd (true≢false (sym k ∙ h))) (λ k. k) (le_total p.distance q.distance n m))

  insert-rising : {ss : List Start} → Rising ss → Rising (insert_unique p ss)
  unfolding insert_unique
  insert-rising empty = single n
  insert-rising (single {p = q} m) = rising-place q [] m (single m) (λ h. before h (single n))
  insert-rising (before {p = q} {q = r} {ss = rs} h rest) =
      rising-place q (r ∷ rs) (le→number q.distance r.distance h).0 (before h rest) (λ k. rising-after q r rs k h (insert-rising rest))

take-rising : (n : ℕ) {ss : List Start} → Rising ss → Rising (take n ss)
take-rising zero r = empty
take-rising (suc n) empty = empty
take-rising (suc zero) (single m) = single m
take-rising (suc (suc n)) (single m) = single m
take-rising (suc zero) (before {p = p} {q = q} h rest) = single (le→number p.distance q.distance h).0
take-rising (suc (suc n)) (before h rest) = before h (take-rising (suc n) rest)

pub kept-rising : (p : Start) {ss : List Start} → is_nan p.distance ≡ false → Rising ss → Rising (kept p ss)
unfolding kept
kept-rising p n r = take-rising 6 (insert-rising p n r)

module _ (p d : Start) where
  beyond : (q : Start) (qs : List Start) → near q p ≡ true → take (length qs) (insert_unique p qs) ≡ qs → take (length (q ∷ qs)) (insert_unique p (q ∷ qs)) ≡ q ∷ qs
  unfolding insert_unique
  beyond q qs h rest = by (near p q) refl
    where
      by : (t : Bool) → near p q ≡ t → take (suc (length qs)) (cond t (cond (level p q) (q ∷ qs) (p ∷ q ∷ qs)) (q ∷ insert_unique p qs)) ≡ q ∷ qs
      by true k = simp (le_antisym p.distance q.distance k h, take-length)
      by false k = ap (λ (l : List Start). q ∷ l) rest

  stays : (q : Start) (qs : List Start) → Rising (q ∷ qs) → near (get_or (q ∷ qs) (length qs) d) p ≡ true → (near q p ≡ true) × (take (length (q ∷ qs)) (insert_unique p (q ∷ qs)) ≡ q ∷ qs)
  unfolding insert_unique
  stays q [] r h = (h, beyond q [] h refl)
  stays q (r ∷ rs) (before k rest) h =
      let next = stays r rs rest h in
      let l = near-trans q r p k next.0 in
      (l, beyond q (r ∷ rs) l next.1)

  pub full-stays : (ss : List Start) → Rising ss → length ss ≡ 6 → near (get_or ss 5 d) p ≡ true → ss ≡ kept p ss
  unfolding kept
  full-stays [] r n h = absurd (omega arith)
  full-stays (q ∷ qs) r n h =
      let five : length qs ≡ 5 = omega arith in
      sym (rw five at (stays q qs r (rw five h)).1)
