-- Laws of the grid's walk, of its starts, and of the nearest grid point, for every evaluation function. Assumes nothing.
use Rattle.std.specs.Prelude.{◌≡◌, Bool, true, false, cond, length, take, Float}
use Rattle.std.proofs.Math.Path.{refl}
use Rattle.std.proofs.Common.{ap, length-take}
use mathlib.Core.List.{List, [], ◌∷◌, Memᴰ}
use Prim.Native.Nat.{ℕ, suc, ◌+◌, ◌*◌, ◌≤◌}
use Rattle.std.proofs.Math.Nat.{add-zero, add-suc, zero-mul, suc-mul}
use native.Mathlib.Omega.{arith}
use Rattle.std.specs.Float.Ieee.{le, eq}
use Rattle.float64.specs.Order.{le_trans, lt_not_le}
use Rattle.vector3.specs.declared.Vector3.{Vector3}
use Rattle.price.specs.Price.{Priced, refused, answered, price, after, mapped}
use Rattle.price.specs.PriceLaws.{Between, Answers, answers-map, after-answers, mapped-answers}
use Rattle.patch.specs.declared.Jet.{Jet}
use Rattle.patch.specs.declared.Evaluated.{Evaluated}
use Rattle.patch.specs.declared.Evaluated.TheVariants.{Found, Refused}
use Rattle.patch.specs.Patch.{from_mark}
use Rattle.shortlist.specs.declared.Start.{Start}
use Rattle.shortlist.specs.FirstSix.{start_at, insert, sorted, apart_from, apart, starts_of}
use Rattle.seeds.specs.Grid.{seen, row_of, survey}
use Rattle.inversion.specs.Nearest.{All, all-at, all_map, Number, Nearest, here, there, nearest-member, nearest-least}

-- ---- the walk

-- of k points: one evaluation each, or fewer where one refuses
abbrev pub Counted : ℕ → Priced (List Start) → Type 0
Counted k (refused n) = (1 ≤ n) × (n ≤ k)
Counted k (answered ps n) = (length ps ≡ k) × (n ≡ k)

-- what holds of the points, where no evaluation refuses
abbrev pub Sees : (List Start → Type 0) → Priced (List Start) → Type 0
Sees P s = Answers (λ ps n. P ps) s

module _ (mark : Vector3) (eval : Float → Float → Evaluated) where
  seen-counted : (k : ℕ) (rest : Priced (List Start)) (x y : Float) (e : Evaluated) → Counted k rest → Counted (suc k) (seen mark eval rest x y e)
  unfolding seen after mapped
  seen-counted k rest x y Refused h = (omega arith, omega arith)
  seen-counted k (refused n) x y (Found j) h = (omega arith, omega arith)
  seen-counted k (answered ps n) x y (Found j) h = (ap suc h.0, omega (arith, h.1))

  row_of-counted : (k : ℕ) (x : Float) (ys : List Float) (below : Priced (List Start)) → Counted k below → Counted (k + length ys) (row_of mark eval x ys below)
  unfolding row_of
  row_of-counted k x [] below h = rw add-zero h
  row_of-counted k x (y ∷ ys) below h = rw add-suc (seen-counted _ _ x y (eval x y) (row_of-counted k x ys below h))

  pub survey-counted : (us vs : List Float) → Counted (length us * length vs) (survey mark eval us vs)
  unfolding survey
  survey-counted [] vs = rw zero-mul (refl, refl)
  survey-counted (x ∷ us) vs = rw suc-mul (row_of-counted _ x vs _ (survey-counted us vs))

  counted-price : (k : ℕ) (s : Priced (List Start)) → 1 ≤ k → Counted k s → Between 1 (price s) k
  counted-price k (refused n) some h = record { above = h.0; under = h.1 }
  counted-price k (answered ps n) some h = record { above = omega (arith, h.1); under = omega (arith, h.1) }

  pub survey-price : (us vs : List Float) → 1 ≤ length us * length vs → Between 1 (price (survey mark eval us vs)) (length us * length vs)
  survey-price us vs some = counted-price _ (survey mark eval us vs) some (survey-counted us vs)

  -- a point with the distance that its evaluation gives
  pub record Seen (p : Start) : Type 0 where
    pub jet : Jet
    pub found : eval p.u p.v ≡ Found jet
    pub distance : p.distance ≡ from_mark mark jet

  module _ (P : List Start → Type 0) (more : (p : Start) → Seen p → (ps : List Start) → P ps → P (p ∷ ps)) where
    seen-sees : (rest : Priced (List Start)) (x y : Float) (e : Evaluated) → eval x y ≡ e → Sees P rest → Sees P (seen mark eval rest x y e)
    unfolding seen
    seen-sees rest x y Refused p h = tt
    seen-sees rest x y (Found j) p h =
        after-answers _ 1 _ (mapped-answers _ _ rest (answers-map _ _ (λ ps n. more _ (record { jet = j; found = p; distance = refl }) ps) rest h))

    row_of-sees : (x : Float) (ys : List Float) (below : Priced (List Start)) → Sees P below → Sees P (row_of mark eval x ys below)
    unfolding row_of
    row_of-sees x [] below h = h
    row_of-sees x (y ∷ ys) below h = seen-sees _ x y (eval x y) refl (row_of-sees x ys below h)

    survey-sees : P [] → (us vs : List Float) → Sees P (survey mark eval us vs)
    unfolding survey
    survey-sees h [] vs = h
    survey-sees h (x ∷ us) vs = row_of-sees x vs _ (survey-sees h us vs)

  pub survey-seen : (us vs : List Float) → Sees (All Seen) (survey mark eval us vs)
  survey-seen = survey-sees (All Seen) (λ p s ps h. (s, h)) tt

  -- and each stands at a u value and a v value of the grid
  module _ (us vs : List Float) where
    abbrev pub OnGrid : Start → Type 0
    OnGrid p = Memᴰ p.u us × Memᴰ p.v vs

    row-on-grid : (x : Float) → Memᴰ x us → (ys : List Float) → ((y : Float) → Memᴰ y ys → Memᴰ y vs) → (below : Priced (List Start)) → Sees (All OnGrid) below
        → Sees (All OnGrid) (row_of mark eval x ys below)
    unfolding row_of seen
    row-on-grid x mx [] some below h = h
    row-on-grid x mx (y ∷ ys) some below h = by (eval x y) (row-on-grid x mx ys (λ z m. some z (Memᴰ.tail m)) below h)
      where
        by : (e : Evaluated) → Sees (All OnGrid) (row_of mark eval x ys below) → Sees (All OnGrid) (seen mark eval (row_of mark eval x ys below) x y e)
        by Refused r = tt
        by (Found j) r =
            let more : (ps : List Start) → All OnGrid ps → All OnGrid (start_at (from_mark mark j) x y ∷ ps) = λ ps a. ((mx, some y (Memᴰ.head refl)), a) in
            let rest = row_of mark eval x ys below in
            after-answers _ 1 _ (mapped-answers _ _ rest (answers-map _ _ (λ ps n. more ps) rest r))

    rows-on-grid : (xs : List Float) → ((x : Float) → Memᴰ x xs → Memᴰ x us) → Sees (All OnGrid) (survey mark eval xs vs)
    unfolding survey
    rows-on-grid [] some = tt
    rows-on-grid (x ∷ xs) some = row-on-grid x (some x (Memᴰ.head refl)) vs (λ y m. m) _ (rows-on-grid xs (λ z m. some z (Memᴰ.tail m)))

    pub survey-on-grid : Sees (All OnGrid) (survey mark eval us vs)
    survey-on-grid = rows-on-grid us (λ x m. m)

  -- every pair of a u value with a v value is among the points
  module _ (x y : Float) (j : Jet) where
    abbrev Meets : Priced (List Start) → Type 0
    Meets = Sees (Memᴰ (start_at (from_mark mark j) x y))

    onward : (p : Start) → Seen p → (ps : List Start) → Memᴰ (start_at (from_mark mark j) x y) ps → Memᴰ (start_at (from_mark mark j) x y) (p ∷ ps)
    onward p s ps m = Memᴰ.tail m

    met : (rest : Priced (List Start)) → Meets (after 1 (mapped (λ ps. start_at (from_mark mark j) x y ∷ ps) rest))
    unfolding after mapped
    met (refused n) = tt
    met (answered ps n) = Memᴰ.head refl

  row_of-meets : (x y : Float) (j : Jet) → eval x y ≡ Found j → (ys : List Float) (below : Priced (List Start)) → Memᴰ y ys → Meets x y j (row_of mark eval x ys below)
  unfolding row_of seen
  row_of-meets x y j p (z ∷ ys) below (Memᴰ.head e) = rw (← e) (rw p (met x y j (row_of mark eval x ys below)))
  row_of-meets x y j p (z ∷ ys) below (Memᴰ.tail m) =
      seen-sees _ (onward x y j) _ x z (eval x z) refl (row_of-meets x y j p ys below m)
  row_of-meets x y j p [] below x'' = elim x'' [ ]

  pub survey-meets : (x y : Float) (j : Jet) → eval x y ≡ Found j → (us vs : List Float) → Memᴰ x us → Memᴰ y vs → Meets x y j (survey mark eval us vs)
  unfolding survey
  survey-meets x y j p (z ∷ us) vs (Memᴰ.head e) m = rw (← e) (row_of-meets x y j p vs (survey mark eval us vs) m)
  survey-meets x y j p (z ∷ us) vs (Memᴰ.tail l) m = row_of-sees _ (onward x y j) z vs _ (survey-meets x y j p us vs l m)
  survey-meets x y j p [] vs x3 m = elim x3 [ ]

  -- where no evaluation of the walk refuses, none of the grid does
  row_of-refuses : (x y : Float) → eval x y ≡ Refused → (ys : List Float) (below : Priced (List Start)) → Memᴰ y ys → Sees (λ ps. ⊥) (row_of mark eval x ys below)
  unfolding row_of seen
  row_of-refuses x y p (z ∷ ys) below (Memᴰ.head e) = rw (← e) (rw p tt)
  row_of-refuses x y p (z ∷ ys) below (Memᴰ.tail m) = seen-sees (λ ps. ⊥) (λ q s ps h. h) _ x z (eval x z) refl (row_of-refuses x y p ys below m)
  row_of-refuses x y p [] below x'' = elim x'' [ ]

  survey-refuses : (x y : Float) → eval x y ≡ Refused → (us vs : List Float) → Memᴰ x us → Memᴰ y vs → Sees (λ ps. ⊥) (survey mark eval us vs)
  unfolding survey
  survey-refuses x y p (z ∷ us) vs (Memᴰ.head e) m = rw (← e) (row_of-refuses x y p vs (survey mark eval us vs) m)
  survey-refuses x y p (z ∷ us) vs (Memᴰ.tail l) m = row_of-sees (λ ps. ⊥) (λ q s ps h. h) z vs _ (survey-refuses x y p us vs l m)
  survey-refuses x y p [] vs x3 m = elim x3 [ ]

  pub survey-found : (us vs : List Float) (ps : List Start) (n : ℕ) → survey mark eval us vs ≡ answered ps n → (x y : Float) → Memᴰ x us → Memᴰ y vs → (j : Jet) × (eval x y ≡ Found j)
  survey-found us vs ps n w x y mx my = by (eval x y) refl
    where
      by : (e : Evaluated) → eval x y ≡ e → (j : Jet) × (eval x y ≡ Found j)
      by (Found j) p = (j, p)
      by Refused p = absurd (rw w at (survey-refuses x y p us vs mx my))

-- ---- the starts

pub starts-six : (ps : List Start) → length (starts_of ps) ≤ 6
unfolding starts_of
starts-six ps = omega (arith, length-take 6 (apart (sorted ps)))

insert-some : (p : Start) (qs : List Start) → 1 ≤ length (insert p qs)
unfolding insert
insert-some p [] = omega arith
insert-some p (q ∷ qs) = by (le p.distance q.distance)
  where
    by : (t : Bool) → 1 ≤ length (cond t (p ∷ q ∷ qs) (q ∷ insert p qs))
    by true = omega arith
    by false = omega arith

apart_from-some : (p : Start) (qs : List Start) → 1 ≤ length (apart_from p qs)
unfolding apart_from
apart_from-some p [] = omega arith
apart_from-some p (q ∷ qs) = by (eq p.distance q.distance) (apart_from-some p qs)
  where
    by : (t : Bool) → 1 ≤ length (apart_from p qs) → 1 ≤ length (cond t (apart_from p qs) (p ∷ apart_from q qs))
    by true h = h
    by false h = omega arith

-- of a grid with a point there is a start
pub starts-some : (ps : List Start) → 1 ≤ length ps → 1 ≤ length (starts_of ps)
unfolding starts_of sorted apart
starts-some [] h = h
starts-some (p ∷ ps) h = by (insert p (sorted ps)) (insert-some p (sorted ps))
  where
    by : (qs : List Start) → 1 ≤ length qs → 1 ≤ length (take 6 (apart qs))
    by [] k = k
    by (q ∷ qs) k = omega (arith, length-take 6 (apart_from q qs), apart_from-some q qs)

abbrev pub away : Start → Float
away s = s.distance

-- the second list's first is the nearest of the first list
abbrev pub Fronted : List Start → List Start → Type 0
Fronted ps [] = ps ≡ []
Fronted ps (q ∷ qs) = Nearest away q ps

module _ (p : Start) (ps : List Start) (number : All (Number away) (p ∷ ps)) where
  insert-fronted : (qs : List Start) → Fronted ps qs → Fronted (p ∷ ps) (insert p qs)
  unfolding insert
  insert-fronted [] h = rw h (here tt)
  insert-fronted (q ∷ qs) h = by (le p.distance q.distance) refl
    where
      known : Number away q
      known = all-at (Number away) number.1 (nearest-member away h)

      by : (t : Bool) → le p.distance q.distance ≡ t → Fronted (p ∷ ps) (cond t (p ∷ q ∷ qs) (q ∷ insert p qs))
      by true l = here (all_map _ _ (λ s k. le_trans p.distance q.distance s.distance l k) ps (nearest-least away known h))
      by false l = there {b = p} (simp (lt_not_le q.distance p.distance known number.0, l)) h

sorted-fronted : (ps : List Start) → All (Number away) ps → Fronted ps (sorted ps)
unfolding sorted
sorted-fronted [] n = refl
sorted-fronted (p ∷ ps) n = insert-fronted p ps n (sorted ps) (sorted-fronted ps n.1)

apart_from-fronted : (ps : List Start) (p : Start) (qs : List Start) → Nearest away p ps → Fronted ps (take 6 (apart_from p qs))
unfolding apart_from
apart_from-fronted ps p [] h = h
apart_from-fronted ps p (q ∷ qs) h = by (eq p.distance q.distance) (apart_from-fronted ps p qs h)
  where
    by : (t : Bool) → Fronted ps (take 6 (apart_from p qs)) → Fronted ps (take 6 (cond t (apart_from p qs) (p ∷ apart_from q qs)))
    by true r = r
    by false r = h

pub starts-fronted : (ps : List Start) → All (Number away) ps → Fronted ps (starts_of ps)
unfolding starts_of apart
starts-fronted ps n = by (sorted ps) (sorted-fronted ps n)
  where
    by : (qs : List Start) → Fronted ps qs → Fronted ps (take 6 (apart qs))
    by [] h = h
    by (q ∷ qs) h = apart_from-fronted ps q qs h
