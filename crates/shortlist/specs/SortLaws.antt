-- The definition of the starts does what its words say: it sorts, it permutes, and of equal distances it keeps the first. Assumes nothing.
use Rattle.std.specs.Prelude.{◌≡◌, ◌⊎◌, Bool, not, ℕ, zero, suc, ◌≤◌, length, take, Float}
use Rattle.std.proofs.Math.Path.{refl, ap}
use Rattle.std.proofs.Common.{sym, ◌∙◌, subst, inl, inr, ⊎_elim, true≢false, arith, length-take}
use Rattle.std.proofs.Math.Bool.{true, false, cond}
use mathlib.Core.List.Memᴰ
use mathlib.Core.List.Permᴰ
use mathlib.Core.List.{List, [], ◌∷◌, Memᴰ, Permᴰ, head-eq_of_cons-eq, nil≢cons}
use Rattle.std.specs.Float.Ieee.{lt, eq, is_nan}
use Rattle.float64.specs.Order.{never, le_total, le_antisym, le→number, lt_not_le, le_not_lt, lt→not-le, lt_irrefl, lt-le-trans, lt_trans, lt-eq, eq_refl, eq-sym, eq_trans}
use Rattle.shortlist.specs.declared.Start.{Start}
use Rattle.shortlist.specs.FirstSix.{insert, sorted, apart_from, apart, starts_of}
use Rattle.shortlist.specs.StartLaws.{Numbers, none, more, near, level, near-trans, level-sym, level-near, level-same, not-level}

-- p is nearer than q
abbrev pub nearer : Start → Start → Bool
nearer p q = lt p.distance q.distance

-- every point stands so to each that follows it
abbrev pub Ordered : (Start → Start → Bool) → List Start → Type 0
Ordered R [] = Unit {0}
Ordered R (p ∷ ps) = ((q : Start) → Memᴰ q ps → R p q ≡ true) × Ordered R ps

-- those at the distance d, in the list's order
abbrev pub at_distance : Float → List Start → List Start
at_distance d [] = []
at_distance d (p ∷ ps) = cond (eq p.distance d) (p ∷ at_distance d ps) (at_distance d ps)

number_at : {p : Start} {ps : List Start} → Numbers ps → Memᴰ p ps → is_nan p.distance ≡ false
number_at (more n ns) (Memᴰ.head e) = rw e n
number_at (more n ns) (Memᴰ.tail m) = number_at ns m
number_at {p = p} none x3 = elim x3 [ ]

pub numbers_of : (ps : List Start) → ((p : Start) → Memᴰ p ps → is_nan p.distance ≡ false) → Numbers ps
numbers_of [] h = none
numbers_of (p ∷ ps) h = more (h p (Memᴰ.head refl)) (numbers_of ps (λ q m. h q (Memᴰ.tail m)))

-- ---- the sort

insert-permutes : (p : Start) (qs : List Start) → Permᴰ (insert p qs) (p ∷ qs)
unfolding insert
insert-permutes p [] = Permᴰ.refl (p ∷ [])
insert-permutes p (q ∷ qs) = by (near p q) (insert-permutes p qs)
  where
    by : (t : Bool) → Permᴰ (insert p qs) (p ∷ qs) → Permᴰ (cond t (p ∷ q ∷ qs) (q ∷ insert p qs)) (p ∷ q ∷ qs)
    by true rest = Permᴰ.refl (p ∷ q ∷ qs)
    by false rest = Permᴰ.trans (Permᴰ.cons refl rest) (Permᴰ.swap refl refl)

-- the points are the list's, each as often
pub sorted-permutes : (ps : List Start) → Permᴰ (sorted ps) ps
unfolding sorted
sorted-permutes [] = Permᴰ.nil
sorted-permutes (p ∷ ps) = Permᴰ.trans (insert-permutes p (sorted ps)) (Permᴰ.cons refl (sorted-permutes ps))

permuted : {p : Start} {ps qs : List Start} → Permᴰ ps qs → Memᴰ p ps → Memᴰ p qs
permuted Permᴰ.nil m = m
permuted (Permᴰ.cons e d) (Memᴰ.head f) = Memᴰ.head (f ∙ e)
permuted (Permᴰ.cons e d) (Memᴰ.tail m) = Memᴰ.tail (permuted d m)
permuted (Permᴰ.swap e f) (Memᴰ.head g) = Memᴰ.tail (Memᴰ.head (g ∙ e))
permuted (Permᴰ.swap e f) (Memᴰ.tail (Memᴰ.head g)) = Memᴰ.head (g ∙ f)
permuted (Permᴰ.swap e f) (Memᴰ.tail (Memᴰ.tail m)) = Memᴰ.tail (Memᴰ.tail m)
permuted (Permᴰ.trans d e) m = permuted e (permuted d m)

sorted-numbers : (ps : List Start) → Numbers ps → (p : Start) → Memᴰ p (sorted ps) → is_nan p.distance ≡ false
sorted-numbers ps ns p m = number_at ns (permuted (sorted-permutes ps) m)

-- p stands so to q and to each of qs
each : (R : Start → Start → Bool) (p q : Start) (qs : List Start) → R p q ≡ true → ((r : Start) → Memᴰ r qs → R p r ≡ true) → (r : Start) → Memᴰ r (q ∷ qs) → R p r ≡ true
each R p q qs h k r (Memᴰ.head e) = rw e h
each R p q qs h k r (Memᴰ.tail m) = k r m

insert-rises : (p : Start) → is_nan p.distance ≡ false → (qs : List Start) → ((q : Start) → Memᴰ q qs → is_nan q.distance ≡ false) → Ordered near qs → Ordered near (insert p qs)
unfolding insert
insert-rises p n [] ns h = (λ r m. absurd (Memᴰ.not-nil m), tt)
insert-rises p n (q ∷ qs) ns h = by (near p q) refl (insert-rises p n qs (λ r m. ns r (Memᴰ.tail m)) h.1)
  where
    by : (t : Bool) → near p q ≡ t → Ordered near (insert p qs) → Ordered near (cond t (p ∷ q ∷ qs) (q ∷ insert p qs))
    by true k rest = (each near p q qs k (λ r m. near-trans p q r k (h.0 r m)), h)
    by false k rest =
        let l : near q p ≡ true = ⊎_elim (λ a. absurd (true≢false (sym a ∙ k))) (λ a. a) (le_total p.distance q.distance n (ns q (Memᴰ.head refl))) in
        (λ r m. each near q p qs l h.0 r (permuted (insert-permutes p qs) m), rest)

-- every point is no further than each that follows it
pub sorted_rises : (ps : List Start) → Numbers ps → Ordered near (sorted ps)
unfolding sorted
sorted_rises [] none = tt
sorted_rises (p ∷ ps) (more n ns) =
    insert-rises p n (sorted ps) (sorted-numbers ps ns) (sorted_rises ps ns)

module _ (d : Float) where
  insert-stable : (p : Start) (qs : List Start) → at_distance d (insert p qs) ≡ at_distance d (p ∷ qs)
  unfolding insert
  insert-stable p [] = refl
  insert-stable p (q ∷ qs) = by (near p q) refl (insert-stable p qs)
    where
      by : (t : Bool) → near p q ≡ t → at_distance d (insert p qs) ≡ at_distance d (p ∷ qs) → at_distance d (cond t (p ∷ q ∷ qs) (q ∷ insert p qs)) ≡ at_distance d (p ∷ q ∷ qs)
      by true k rest = refl
      by false k rest = rw rest (passed (eq p.distance d) (eq q.distance d) refl refl)
        where
          passed : (a b : Bool) → eq p.distance d ≡ a → eq q.distance d ≡ b
              → cond b (q ∷ cond a (p ∷ at_distance d qs) (at_distance d qs)) (cond a (p ∷ at_distance d qs) (at_distance d qs)) ≡ cond a (p ∷ cond b (q ∷ at_distance d qs) (at_distance d qs)) (cond b (q ∷ at_distance d qs) (at_distance d qs))
          passed true true x y = absurd (true≢false (sym (level-near p q (eq_trans p.distance d q.distance x (eq-sym d q.distance ∙ y))) ∙ k))
          passed true false x y = refl
          passed false b x y = refl

  -- points at one distance keep the list's order
  pub sorted-stable : (ps : List Start) → at_distance d (sorted ps) ≡ at_distance d ps
  unfolding sorted
  sorted-stable [] = refl
  sorted-stable (p ∷ ps) = insert-stable p (sorted ps) ∙ ap (λ (l : List Start). cond (eq p.distance d) (p ∷ l) l) (sorted-stable ps)

-- ---- equal distances dropped

-- the first of the list at its distance
pub record Earliest (ps : List Start) (p : Start) : Type 0 where
  pub later : List Start
  pub first : at_distance p.distance ps ≡ p ∷ later

-- a point of the list is as far as p
pub record Met (ps : List Start) (p : Start) : Type 0 where
  pub point : Start
  pub member : Memᴰ point ps
  pub as-far : level p point ≡ true

-- of every distance in the list its first point, and no other, rising
pub record Firsts (ps ss : List Start) : Type 0 where
  pub rising : Ordered nearer ss
  pub first : (s : Start) → Memᴰ s ss → Earliest ps s
  pub every : (p : Start) → Memᴰ p ps → Met ss p

at-member : (d : Float) (ps : List Start) {p : Start} {later : List Start} → at_distance d ps ≡ p ∷ later → Memᴰ p ps
at-member d [] e = absurd (nil≢cons e)
at-member d (q ∷ qs) {p} {later} e = by (eq q.distance d) e (at-member d qs)
  where
    by : (t : Bool) → cond t (q ∷ at_distance d qs) (at_distance d qs) ≡ p ∷ later → (at_distance d qs ≡ p ∷ later → Memᴰ p qs) → Memᴰ p (q ∷ qs)
    by true f rest = Memᴰ.head (sym (head-eq_of_cons-eq f))
    by false f rest = Memᴰ.tail (rest f)

-- it is a point of the list
pub first_member : {ps : List Start} {p : Start} → Earliest ps p → Memᴰ p ps
first_member {ps} {p} f = at-member p.distance ps f.first

module _ (p q : Start) (qs ss : List Start) where
  -- q is as far as p
  module _ (k : level p q ≡ true) (f : Firsts (p ∷ qs) ss) where
    dropped-first : (s : Start) → Earliest (p ∷ qs) s → Earliest (p ∷ q ∷ qs) s
    dropped-first s g = by (level p s) refl g.first
      where
        by : (t : Bool) → level p s ≡ t → cond t (p ∷ at_distance s.distance qs) (at_distance s.distance qs) ≡ s ∷ g.later → Earliest (p ∷ q ∷ qs) s
        by true a e = record { later = at_distance s.distance (q ∷ qs); first = rw a (ap (λ (r : Start). r ∷ at_distance s.distance (q ∷ qs)) (head-eq_of_cons-eq e)) }
        by false a e = record { later = g.later; first = rw (a, sym (level-same p q s k) ∙ a) e }

    dropped-met : (r : Start) → Memᴰ r (p ∷ q ∷ qs) → Met ss r
    dropped-met r (Memᴰ.head e) = f.every r (Memᴰ.head e)
    dropped-met r (Memᴰ.tail (Memᴰ.head e)) =
        let m = f.every p (Memᴰ.head refl) in
        record { point = m.point; member = m.member; as-far = rw e (sym (level-same p q m.point k) ∙ m.as-far) }
    dropped-met r (Memᴰ.tail (Memᴰ.tail m)) = f.every r (Memᴰ.tail m)

    dropped : Firsts (p ∷ q ∷ qs) ss
    dropped = record { rising = f.rising; first = λ s m. dropped-first s (f.first s m); every = dropped-met }

  -- q is further than p
  module _ (h : Ordered near (p ∷ q ∷ qs)) (k : level p q ≡ false) (f : Firsts (q ∷ qs) ss) where
    n : (is_nan p.distance ≡ false) × (is_nan q.distance ≡ false)
    n = le→number p.distance q.distance (h.0 q (Memᴰ.head refl))

    further : nearer p q ≡ true
    further = simp (lt_not_le p.distance q.distance n.0 n.1, never (near q p) (λ l. true≢false (sym (le_antisym p.distance q.distance (h.0 q (Memᴰ.head refl)) l) ∙ k)))

    below : (s : Start) → Memᴰ s ss → nearer p s ≡ true
    below s m =
        each nearer p q qs further (λ r l. lt-le-trans p.distance q.distance r.distance further (h.1.0 r l)) s (first_member (f.first s m))

    held : Firsts (p ∷ q ∷ qs) (p ∷ ss)
    held = record { rising = (below, f.rising); first = first_of; every = met }
      where
        first_of : (s : Start) → Memᴰ s (p ∷ ss) → Earliest (p ∷ q ∷ qs) s
        first_of s (Memᴰ.head e) = rw e (record { later = at_distance p.distance (q ∷ qs); first = rw (eq_refl p.distance n.0) })
        first_of s (Memᴰ.tail m) =
            let g = f.first s m in
            record { later = g.later; first = rw (not-level p s (lt→not-le p.distance s.distance (below s m))) g.first }

        met : (r : Start) → Memᴰ r (p ∷ q ∷ qs) → Met (p ∷ ss) r
        met r (Memᴰ.head e) = record { point = p; member = Memᴰ.head refl; as-far = rw e (eq_refl p.distance n.0) }
        met r (Memᴰ.tail l) =
            let m = f.every r l in
            record { point = m.point; member = Memᴰ.tail m.member; as-far = m.as-far }

alone : (p : Start) → is_nan p.distance ≡ false → Firsts (p ∷ []) (p ∷ [])
alone p n = record { rising = (λ r m. absurd (Memᴰ.not-nil m), tt); first = first_of; every = met }
  where
    first_of : (s : Start) → Memᴰ s (p ∷ []) → Earliest (p ∷ []) s
    first_of s m = rw (Memᴰ.eq_of_singleton m) (record { later = []; first = rw (eq_refl p.distance n) })

    met : (r : Start) → Memᴰ r (p ∷ []) → Met (p ∷ []) r
    met r m = record { point = p; member = Memᴰ.head refl; as-far = rw (Memᴰ.eq_of_singleton m) (eq_refl p.distance n) }

apart_from-firsts : (p : Start) (qs : List Start) → is_nan p.distance ≡ false → Ordered near (p ∷ qs) → Firsts (p ∷ qs) (apart_from p qs)
unfolding apart_from
apart_from-firsts p [] n h = alone p n
apart_from-firsts p (q ∷ qs) n h =
    by (level p q) refl (apart_from-firsts p qs n (λ r m. h.0 r (Memᴰ.tail m), h.1.1)) (apart_from-firsts q qs (le→number p.distance q.distance (h.0 q (Memᴰ.head refl))).1 h.1)
  where
    by : (t : Bool) → level p q ≡ t → Firsts (p ∷ qs) (apart_from p qs) → Firsts (q ∷ qs) (apart_from q qs) → Firsts (p ∷ q ∷ qs) (cond t (apart_from p qs) (p ∷ apart_from q qs))
    by true k same next = dropped p q qs (apart_from p qs) k same
    by false k same next = held p q qs (apart_from q qs) h k next

-- of a rising list `apart` keeps the first point of every distance, and no other
pub apart-firsts : (ps : List Start) → Numbers ps → Ordered near ps → Firsts ps (apart ps)
unfolding apart
apart-firsts [] n h = record { rising = tt; first = λ s m. absurd (Memᴰ.not-nil m); every = λ p m. absurd (Memᴰ.not-nil m) }
apart-firsts (p ∷ ps) (more n ns) h = apart_from-firsts p ps n h

-- ---- the starts

-- of n points each is nearer than p
abbrev pub Beyond : ℕ → List Start → Start → Type 0
Beyond n ss p = (length ss ≡ n) × ((s : Start) → Memᴰ s ss → nearer s p ≡ true)

-- at most six, rising, each the first of all points at its distance; a point at no start's distance is further than six starts
pub record NearestSix (ps ss : List Start) : Type 0 where
  pub six : length ss ≤ 6
  pub rising : Ordered nearer ss
  pub first : (s : Start) → Memᴰ s ss → Earliest ps s
  pub rest : (p : Start) → Memᴰ p ps → Met ss p ⊎ Beyond 6 ss p

take-member : (n : ℕ) (ss : List Start) {s : Start} → Memᴰ s (take n ss) → Memᴰ s ss
take-member zero ss m = absurd (Memᴰ.not-nil m)
take-member (suc n) [] m = m
take-member (suc n) (t ∷ ss) (Memᴰ.head e) = Memᴰ.head e
take-member (suc n) (t ∷ ss) (Memᴰ.tail m) = Memᴰ.tail (take-member n ss m)

take-ordered : (n : ℕ) (ss : List Start) → Ordered nearer ss → Ordered nearer (take n ss)
take-ordered zero ss o = tt
take-ordered (suc n) [] o = tt
take-ordered (suc n) (s ∷ ss) o = (λ t m. o.0 t (take-member n ss m), take-ordered n ss o.1)

-- a point of a rising list is among the first n, or further than all of them
taken : (n : ℕ) (ss : List Start) → Ordered nearer ss → (s : Start) → Memᴰ s ss → Memᴰ s (take n ss) ⊎ Beyond n (take n ss) s
taken zero ss o s m = inr (refl, λ t l. absurd (Memᴰ.not-nil l))
taken (suc n) [] o s m = elim m [ ]
taken (suc n) (r ∷ ss) o s (Memᴰ.head e) = inl (Memᴰ.head e)
taken (suc n) (r ∷ ss) o s (Memᴰ.tail m) = by (taken n ss o.1 s m)
  where
    past : ((t : Start) → Memᴰ t (take n ss) → nearer t s ≡ true) → (t : Start) → Memᴰ t (r ∷ take n ss) → nearer t s ≡ true
    past f t (Memᴰ.head e) = rw e (o.0 s m)
    past f t (Memᴰ.tail l) = f t l

    by : Memᴰ s (take n ss) ⊎ Beyond n (take n ss) s → Memᴰ s (r ∷ take n ss) ⊎ Beyond (suc n) (r ∷ take n ss) s
    by (inl l) = inl (Memᴰ.tail l)
    by (inr f) = inr (ap suc f.0, past f.1)

met-or-beyond : (n : ℕ) (ss : List Start) → Ordered nearer ss → (p : Start) → Met ss p → Met (take n ss) p ⊎ Beyond n (take n ss) p
met-or-beyond n ss o p l = by (taken n ss o l.point l.member)
  where
    by : Memᴰ l.point (take n ss) ⊎ Beyond n (take n ss) l.point → Met (take n ss) p ⊎ Beyond n (take n ss) p
    by (inl m) = inl (record { point = l.point; member = m; as-far = l.as-far })
    by (inr f) = inr (f.0, λ s m. lt-eq s.distance l.point.distance p.distance (f.1 s m) (level-sym l.point p ∙ l.as-far))

-- "the first six of the whole grid sorted by distance, equal distances dropped"
pub starts-nearest-six : (ps : List Start) → Numbers ps → NearestSix ps (starts_of ps)
unfolding starts_of
starts-nearest-six ps ns =
    let ss : List Start = apart (sorted ps) in
    let f : Firsts (sorted ps) ss = apart-firsts (sorted ps) (numbers_of (sorted ps) (sorted-numbers ps ns)) (sorted_rises ps ns) in
    record {
      six = omega (arith, length-take 6 ss);
      rising = take-ordered 6 ss f.rising;
      first = λ s m. record { later = (f.first s (take-member 6 ss m)).later; first = sym (sorted-stable s.distance ps) ∙ (f.first s (take-member 6 ss m)).first };
      rest = λ p m. met-or-beyond 6 ss f.rising p (f.every p (permuted (Permᴰ.symm (sorted-permutes ps)) m));
    }

-- ---- what is chosen is one list

at_same : (p q : Start) → level p q ≡ true → (ps : List Start) → at_distance p.distance ps ≡ at_distance q.distance ps
at_same p q h [] = refl
at_same p q h (r ∷ rs) = rw (level-sym r p ∙ level-same p q r h ∙ level-sym q r, at_same p q h rs)

module _ (ps : List Start) (ns : Numbers ps) where
  -- what is left of the starts behind some that are taken off: Q holds of the points further than those
  record Left (n : ℕ) (Q : Start → Type 0) (ss : List Start) : Type 0 where
    most : length ss ≤ n
    rising : Ordered nearer ss
    first : (s : Start) → Memᴰ s ss → Earliest ps s × Q s
    rest : (p : Start) → Memᴰ p ps → Q p → Met ss p ⊎ Beyond n ss p

  some_left : (n : ℕ) (Q : Start → Type 0) (t : Start) (ts : List Start) → Left n Q [] → Left n Q (t ∷ ts) → ⊥
  some_left n Q t ts a b =
      let f = b.first t (Memᴰ.head refl) in
      ⊎_elim (λ m. Memᴰ.not-nil m.member) (λ e. omega (arith, e.0, b.most)) (a.rest t (first_member f.0) f.1)

  -- no point is nearer than the first start
  none-nearer : (n : ℕ) (Q : Start → Type 0) (t : Start) (ts : List Start) → Left n Q (t ∷ ts) → (p : Start) → Memᴰ p ps → Q p → nearer p t ≡ true → ⊥
  none-nearer n Q t ts b p m q h = ⊎_elim met beyond (b.rest p m q)
    where
      met : Met (t ∷ ts) p → ⊥
      met l =
          let k = each nearer p t ts h (λ r j. lt_trans p.distance t.distance r.distance h (b.rising.0 r j)) l.point l.member in
          true≢false (sym l.as-far ∙ not-level p l.point (lt→not-le p.distance l.point.distance k))

      beyond : Beyond n (t ∷ ts) p → ⊥
      beyond l = true≢false (sym (lt_trans p.distance t.distance p.distance h (l.1 t (Memᴰ.head refl))) ∙ lt_irrefl p.distance)

  heads-level : (n : ℕ) (Q : Start → Type 0) (s t : Start) (ss ts : List Start) → Left n Q (s ∷ ss) → Left n Q (t ∷ ts) → level s t ≡ true
  heads-level n Q s t ss ts a b =
      let f = a.first s (Memᴰ.head refl) in
      let g = b.first t (Memᴰ.head refl) in
      let x = first_member f.0 in
      let y = first_member g.0 in
      le_antisym
      s.distance
      t.distance
      (le_not_lt s.distance t.distance (number_at ns x) (number_at ns y) ∙ ap not (never (nearer t s) (none-nearer n Q s ss a t y g.1)))
      (le_not_lt t.distance s.distance (number_at ns y) (number_at ns x) ∙ ap not (never (nearer s t) (none-nearer n Q t ts b s x f.1)))

  heads-same : (n : ℕ) (Q : Start → Type 0) (s t : Start) (ss ts : List Start) → Left n Q (s ∷ ss) → Left n Q (t ∷ ts) → s ≡ t
  heads-same n Q s t ss ts a b =
      head-eq_of_cons-eq (sym (a.first s (Memᴰ.head refl)).0.first ∙ at_same s t (heads-level n Q s t ss ts a b) ps ∙ (b.first t (Memᴰ.head refl)).0.first)

  behind : (n : ℕ) (Q : Start → Type 0) (s : Start) (ss : List Start) → Left (suc n) Q (s ∷ ss) → Left n (λ p. Q p × (nearer s p ≡ true)) ss
  behind n Q s ss a =
      record { most = omega (arith, a.most); rising = a.rising.1; first = λ t m. let f = a.first t (Memᴰ.tail m) in (f.0, (f.1, a.rising.0 t m)); rest = rest_of }
    where
      met : (p : Start) → nearer s p ≡ true → (r : Start) → level p r ≡ true → Memᴰ r (s ∷ ss) → Met ss p
      met p h r k (Memᴰ.head e) = absurd (true≢false (sym (lt-eq s.distance p.distance s.distance h (rw (← e) k)) ∙ lt_irrefl s.distance))
      met p h r k (Memᴰ.tail m) = record { point = r; member = m; as-far = k }

      rest_of : (p : Start) → Memᴰ p ps → Q p × (nearer s p ≡ true) → Met ss p ⊎ Beyond n ss p
      rest_of p m q =
          ⊎_elim (λ l. inl (met p q.1 l.point l.as-far l.member)) (λ l. inr (omega (arith, l.0), λ t j. l.1 t (Memᴰ.tail j))) (a.rest p m q.0)

  one_left : (n : ℕ) (Q : Start → Type 0) (ss ts : List Start) → Left n Q ss → Left n Q ts → ss ≡ ts
  one_left n Q [] [] a b = refl
  one_left n Q [] (t ∷ ts) a b = absurd (some_left n Q t ts a b)
  one_left n Q (s ∷ ss) [] a b = absurd (some_left n Q s ss b a)
  one_left zero Q (s ∷ ss) (t ∷ ts) a b = absurd (omega (arith, a.most))
  one_left (suc n) Q (s ∷ ss) (t ∷ ts) a b =
      let e : s ≡ t = heads-same (suc n) Q s t ss ts a b in
      let c : Left (suc n) Q (s ∷ ts) = subst (λ (r : Start). Left (suc n) Q (r ∷ ts)) (sym e) b in
      ap (λ (l : List Start). s ∷ l) (one_left n (λ p. Q p × (nearer s p ≡ true)) ss ts (behind n Q s ss a) (behind n Q s ts c)) ∙ ap (λ (r : Start). r ∷ ts) e

-- the four facts hold of no other list
pub nearest-six-only : (ps ss ts : List Start) → Numbers ps → NearestSix ps ss → NearestSix ps ts → ss ≡ ts
nearest-six-only ps ss ts ns a b = one_left ps ns 6 (λ p. Unit {0}) ss ts (left ss a) (left ts b)
  where
    left : (rs : List Start) → NearestSix ps rs → Left ps ns 6 (λ p. Unit {0}) rs
    left rs c = record { most = c.six; rising = c.rising; first = λ s m. (c.first s m, tt); rest = λ p m q. c.rest p m }
