-- Lists of starts by place: an element put in by carrying the displaced one on. Assumes nothing.
use mathlib.Core.Path.{◌≡◌, refl, sym, ap, ◌∙◌}
use mathlib.Core.Bool.{Bool, true, false, cond}
use mathlib.Core.List.{List, [], ◌∷◌, ◌++◌, map, append_assoc}
use Prim.Native.Nat.{ℕ, suc, ◌+◌, ◌≤◌, ◌<◌}
use native.Mathlib.Omega.{arith}
use native.Mathlib.Numerals.{add-one}
use lib.ListN.{length, get_or, set, take, drop, length-append, length-map, drop_of_length-le}
use lib.Seq.{take-suc-set, drop-set-lt, drop-cons, take-set-lt, take-take, take_all, take-append-le, length-take-le, get_or-take}
use lib.Dec.{T}
use lib.Ieee.{Float, nan, binary64, fits, lt, le, eq}
use Rattle.float64.specs.Operators.{0·}
use Rattle.float64.specs.Functions.{root}
use Rattle.float64.specs.Nonneg.{nonneg→number}
use Rattle.vector3.specs.declared.Vector3.{Vector3}
use Rattle.vector3.specs.Vector3.{distance}
use Rattle.vector3.specs.Laws.{Finite, distance-number}
use Rattle.shortlist.specs.declared.Start.{Start}
use Rattle.shortlist.specs.declared.Starts.{Starts}
use Rattle.shortlist.specs.declared.Shortlist.{Shortlist}
use Rattle.shortlist.specs.FirstSix.{start_at}
use Rattle.shortlist.specs.StartLaws.{full-stays, kept-rising}
use Rattle.shortlist.specs.Insert.{starts_in, Rising, Limits, Sound, place_in, spliced, insert_unique, kept}
use Rattle.shortlist.specs.LimitLaws.{square_of, distance-is-root, square-fits, square-not-below, limit-at}

-- what a list answers past its end
abbrev pub none : Start
none = start_at nan nan nan

-- ---- the place
module _ (d : Float) (at : List Start) (count n i : ℕ) (c : count ≤ length at) (e : n ≡ i + place_in d (drop i (take count at))) where
  place-more : i < count → n ≡ i + cond (le d (get_or at i none).distance) 0 (suc (place_in d (drop (i + 1) (take count at))))
  unfolding place_in
  place-more l =
      let q : i < length (take count at) = omega (arith, length-take-le count at c) in
      e ∙ rw (add-one i, drop-cons (take count at) i none q, get_or-take count at i none l)

  pub place-goes : le d (get_or at i none).distance ≡ false → i < count → n ≡ i + 1 + place_in d (drop (i + 1) (take count at))
  place-goes t l =
      let q : n ≡ i + suc (place_in d (drop (i + 1) (take count at))) = place-more l ∙ simp t in
      omega arith

  pub place-stops : le d (get_or at i none).distance ≡ true → i < count → i ≡ n
  place-stops t l =
      let q : n ≡ i + 0 = place-more l ∙ simp t in
      omega arith

  pub place-ends : i ≡ count → count ≡ n
  unfolding place_in
  place-ends l =
      let q : length (take count at) ≤ i = omega (arith, length-take-le count at c) in
      let r : n ≡ i + 0 = e ∙ ap (λ (h : List Start). i + place_in d h) (drop_of_length-le (take count at) q) in
      omega arith

pub place-le : (d : Float) (h : List Start) → place_in d h ≤ length h
unfolding place_in
place-le d [] = omega arith
place-le d (y ∷ ys) = by (le d y.distance) (place_in d ys) (place-le d ys)
  where
    by : (t : Bool) (n : ℕ) → n ≤ length ys → cond t 0 (suc n) ≤ suc (length ys)
    by true n l = omega arith
    by false n l = omega arith

-- ---- the carrying
carried : (h : List Start) (k : ℕ) (x d : Start) → k < length h → spliced k x h ≡ spliced (suc k) (get_or h k d) (set h k x)
carried h k x d lt =
    simp (take-suc-set h k x lt, drop-set-lt (suc k) h k x (omega arith), append_assoc)
    (ap (λ (r : List Start). take k h ++ x ∷ r) (drop-cons h k d lt))

module _ (l out : List Start) (count k : ℕ) (x : Start) (e : l ≡ spliced k x (take count out)) (n : length out ≡ 6) where
  counted : count ≤ 6 → length (take count out) ≡ count
  counted c = length-take-le count out (omega arith)

  pub carry-goes : (d : Start) → k < count → count ≤ 6 → l ≡ spliced (k + 1) (get_or out k d) (take count (set out k x))
  carry-goes d h c =
      e ∙ carried (take count out) k x d (omega (arith, counted c)) ∙ simp (add-one, get_or-take count out k d h, take-set-lt count out k x h)

  -- the loop is over
  last : k ≡ count → count ≤ 6 → l ≡ take count out ++ x ∷ []
  last s c =
      let z : drop count (take count out) ≡ [] = drop_of_length-le (take count out) {i = count} (omega (arith, counted c)) in
      e ∙ rw s (simp (z, take-take count count out (omega arith)))

  pub carry-room : k ≡ count → count < 6 → take (count + 1) (set out count x) ≡ take 6 l
  carry-room s h =
      let c : count ≤ 6 = omega arith in
      let w : length (take count out ++ x ∷ []) ≤ 6 = simp length-append (omega (arith, counted c)) in
      rw (add-one count) (take-suc-set out count x (omega arith)) ∙ sym (ap (take 6) (last s c) ∙ take_all 6 (take count out ++ x ∷ []) w)

  pub carry-full : k ≡ count → count ≡ 6 → take count out ≡ take 6 l
  carry-full s h =
      let c : count ≤ 6 = omega arith in
      let w : take 6 (take count out ++ x ∷ []) ≡ take 6 (take count out) = take-append-le 6 (take count out) (x ∷ []) (omega (arith, counted c)) in
      sym (ap (take 6) (last s c) ∙ w ∙ take_all 6 (take count out) (omega (arith, counted c)))

-- ---- what insertion makes of the place, by the outcome t of the test of the first element; n is the place in the rest
module _ (x y : Start) (ys : List Start) (n : ℕ) where
  unique-cons : (t : Bool) → (n < length ys → eq x.distance (get_or ys n none).distance ≡ true → ys ≡ insert_unique x ys)
      → cond t 0 (suc n) < suc (length ys) → eq x.distance (get_or (y ∷ ys) (cond t 0 (suc n)) none).distance ≡ true
      → y ∷ ys ≡ cond t (cond (eq x.distance y.distance) (y ∷ ys) (x ∷ y ∷ ys)) (y ∷ insert_unique x ys)
  unique-cons true rest l q = simp q
  unique-cons false rest l q = ap (λ (r : List Start). y ∷ r) (rest (omega arith) q)

  insert-cons : (t : Bool) → ((n < length ys → eq x.distance (get_or ys n none).distance ≡ false) → spliced n x ys ≡ insert_unique x ys)
      → (cond t 0 (suc n) < suc (length ys) → eq x.distance (get_or (y ∷ ys) (cond t 0 (suc n)) none).distance ≡ false)
      → spliced (cond t 0 (suc n)) x (y ∷ ys) ≡ cond t (cond (eq x.distance y.distance) (y ∷ ys) (x ∷ y ∷ ys)) (y ∷ insert_unique x ys)
  insert-cons true rest q = simp (q (omega arith))
  insert-cons false rest q = ap (λ (r : List Start). y ∷ r) (rest (λ l. q (omega arith)))

unique-at : (x : Start) (h : List Start) → place_in x.distance h < length h → eq x.distance (get_or h (place_in x.distance h) none).distance ≡ true → h ≡ insert_unique x h
unfolding place_in insert_unique
unique-at x [] l q = absurd (omega arith)
unique-at x (y ∷ ys) l q = unique-cons x y ys (place_in x.distance ys) (le x.distance y.distance) (unique-at x ys) l q

insert-at : (x : Start) (h : List Start) → (place_in x.distance h < length h → eq x.distance (get_or h (place_in x.distance h) none).distance ≡ false)
    → spliced (place_in x.distance h) x h ≡ insert_unique x h
unfolding place_in insert_unique
insert-at x [] q = refl
insert-at x (y ∷ ys) q = insert-cons x y ys (place_in x.distance ys) (le x.distance y.distance) (insert-at x ys) q

-- of s and x, whose place is i: one as far is met, or none
module _ (s : Starts) (x : Start) (i : ℕ) (n : length (starts_in s) ≡ s.count) (c : s.count ≤ 6) (e : i ≡ place_in x.distance (starts_in s)) where
  pub met : i < s.count → eq x.distance (get_or s.at i none).distance ≡ true → starts_in s ≡ kept x (starts_in s)
  unfolding kept
  met l q =
      let y : get_or (starts_in s) i none ≡ get_or s.at i none = get_or-take s.count s.at i none l in
      let u : starts_in s ≡ insert_unique x (starts_in s) = unique-at x (starts_in s) (omega arith) (rw (← e, y) q) in
      sym (sym (ap (take 6) u) ∙ take_all 6 (starts_in s) (omega arith))

  pub new : (i < s.count → eq x.distance (get_or s.at i none).distance ≡ false) → take 6 (spliced i x (starts_in s)) ≡ kept x (starts_in s)
  unfolding kept
  new q =
      let u : spliced i x (starts_in s) ≡ insert_unique x (starts_in s) = rw e (insert-at x (starts_in s) (λ l.
      let k : i < s.count = omega arith in
      rw (← e, get_or-take s.count s.at i none k) (q k))) in
      ap (take 6) u

-- six are held, and a point with that squared distance is no nearer than the last
pub no-nearer : (s : Starts) (square : Float) {d : Float} → d ≡ root square → length (starts_in s) ≡ s.count → s.count ≡ 6 → Rising (starts_in s) → lt square 0· ≡ false → T (fits binary64 square) → le (get_or s.at 5 none).distance d ≡ true
    → (u v : Float) → (starts_in s ≡ kept (start_at (root square) u v) (starts_in s)) × Limits square (starts_in s)
no-nearer s square e n c r b f h u v =
    let l : 5 < s.count = omega arith in
    let last : le (get_or (starts_in s) 5 none).distance (root square) ≡ true = rw (get_or-take s.count s.at 5 none l, ← e) h in
    (full-stays (start_at (root square) u v) none (starts_in s) r (omega arith) last, limit-at none (starts_in s) square r (omega arith) b f last)

-- ---- the surface point p, whose squared distance is q, is taken in after those of n
module _ (mark p : Vector3) {q : Float} (e : q ≡ square_of mark p) {n : Shortlist} (h : Sound n × Finite mark × Finite p) where
  pub keepable : (n.starts.count ≤ 6) × Rising (starts_in n.starts) × (lt q 0· ≡ false) × T (fits binary64 q)
  keepable = (h.0.six, h.0.rising, rw e (square-not-below mark p h.1 h.2), rw e (square-fits mark p))

  module _ (x y : Float) where
    abbrev TakenIn : Shortlist → Type 0
    TakenIn m = (starts_in m.starts ≡ kept (start_at (distance p mark) x y) (starts_in n.starts)) × Sound m

    same_start : kept (start_at (root q) x y) (starts_in n.starts) ≡ kept (start_at (distance p mark) x y) (starts_in n.starts)
    same_start = rw (e, distance-is-root mark p)

    -- left out, since the root is monotone
    pub left_out : le n.limit q ≡ true → TakenIn n
    left_out l = (h.0.limits q x y (rw e (square-fits mark p)) l ∙ same_start, h.0)

    pub put_in : {m : Shortlist} → (starts_in m.starts ≡ kept (start_at (root q) x y) (starts_in n.starts)) × (m.starts.count ≤ 6) × Limits m.limit (starts_in m.starts) → TakenIn m
    put_in k =
        let t = k.0 ∙ same_start in
        let number = nonneg→number (distance-number p mark h.2 h.1) in
        (t, record { six = k.1; rising = rw t (kept-rising (start_at (distance p mark) x y) number h.0.rising); limits = k.2 })

-- an array of structs, as long as what is known of it
pub unmapped : (X Y : Type 0) (f : X → Y) (l : List X) (n : ℕ) → length (map f l) ≡ n → length l ≡ n
unmapped X Y f l n p = sym (length-map l f) ∙ p

pub starts-count : (s : Starts) → s.count ≤ 6 → length s.at ≡ 6 → length (starts_in s) ≡ s.count
starts-count s c n = length-take-le s.count s.at (omega arith)
