-- What is written of a row's end and of the edges. Assumes nothing.
use mathlib.Core.Path.{◌≡◌, refl, sym, ap, ◌∙◌}
use mathlib.Core.List.{List, [], ◌∷◌}
use Prim.Native.Nat.{ℕ, zero, suc, ◌+◌, ◌≤◌, ◌<◌}
use native.Mathlib.Numerals.{unary_clauses}
use native.Mathlib.Omega.{arith}
use lib.ListN.{length, drop, set, length-set}
use lib.Ieee.{Float}
use Rattle.row.specs.declared.RowEnd.{RowEnd}
use Rattle.row.specs.declared.RowEnd.TheVariants.{Placed, Refusal}
use Rattle.row.specs.Row.{number_of, index_of, left_of}
use Rattle.edges.specs.declared.Singular.{Singular}
use Rattle.edges.specs.declared.Edge.{Edge}
use Rattle.edges.specs.declared.Edge.TheVariants.{Open, Collapsed}
use Rattle.edges.specs.declared.Edges.{Edges}
use Rattle.laid.specs.Laid.{Tells, first_of, flag_of, edge_at, edges_into}

-- ---- a row's end

abbrev Ends : RowEnd → List ℕ → List ℕ → ℕ → List ℕ → List ℕ → Type 0
Ends e bs ns number budget index = (number ≡ number_of e) × ((budget ≡ first_of (left_of e) bs) × (index ≡ first_of (index_of e) ns))

pub ended-placed : (bs ns : List ℕ) {e : RowEnd} {left : ℕ} → 1 ≤ length bs → 1 ≤ length ns → e ≡ Placed left → Ends e bs ns 0 (set bs 0 left) (set ns 0 0)
unfolding number_of left_of index_of
ended-placed [] ns k l h = absurd (omega arith)
ended-placed (b ∷ bs) [] k l h = absurd (omega arith)
ended-placed (b ∷ bs) (n ∷ ns) k l h = rw h (refl, (refl, refl))

pub ended-refused : (bs ns : List ℕ) {e : RowEnd} {number i left : ℕ} → 1 ≤ length bs → 1 ≤ length ns → e ≡ Refusal number i left → Ends e bs ns number (set bs 0 left) (set ns 0 i)
unfolding number_of left_of index_of
ended-refused [] ns k l h = absurd (omega arith)
ended-refused (b ∷ bs) [] k l h = absurd (omega arith)
ended-refused (b ∷ bs) (n ∷ ns) k l h = rw h (refl, (refl, refl))

-- ---- the flags of four edges

module _ (ns : List ℕ) (l : 4 ≤ length ns) where
  pub second : (a : ℕ) → 1 < length (set ns 0 a)
  second a = omega (arith, length-set ns 0 a)

  pub third : (a b : ℕ) → 2 < length (set (set ns 0 a) 1 b)
  third a b = omega (arith, length-set (set ns 0 a) 1 b, length-set ns 0 a)

pub four-flags : (ns : List ℕ) {a b c d : ℕ} {x y z w : ℕ} → 4 ≤ length ns → a ≡ x → b ≡ y → c ≡ z → d ≡ w → set (set (set (set ns 0 a) 1 b) 2 c) 3 d ≡ x ∷ (y ∷ (z ∷ (w ∷ drop 4 ns)))
four-flags [] l p q r s = absurd (omega arith)
four-flags (k ∷ []) l p q r s = absurd (omega arith)
four-flags (k ∷ (m ∷ [])) l p q r s = absurd (omega arith)
four-flags (k ∷ (m ∷ (n ∷ []))) l p q r s = absurd (omega arith)
four-flags (k ∷ (m ∷ (n ∷ (o ∷ ns)))) l p q r s = cc

-- ---- the numbers of an edge

pub open-edge : (i : ℕ) (xs : List Float) {e : Edge} → e ≡ Open → xs ≡ edge_at i e xs
unfolding edge_at
open-edge i xs h = rw h refl

module _ (i : ℕ) (xs : List Float) (e : Singular) (l : i + 5 ≤ length xs) where
  abbrev one : List Float
  one = set xs i e.value

  abbrev two : List Float
  two = set one (i + 1) e.point.x

  abbrev three : List Float
  three = set two (i + 2) e.point.y

  abbrev four : List Float
  four = set three (i + 3) e.point.z

  one-length : length one ≡ length xs
  one-length = length-set xs i e.value

  two-length : length two ≡ length xs
  two-length = length-set one (i + 1) e.point.x ∙ one-length

  three-length : length three ≡ length xs
  three-length = length-set two (i + 2) e.point.y ∙ two-length

  four-length : length four ≡ length xs
  four-length = length-set three (i + 3) e.point.z ∙ three-length

  pub in_one : i + 1 < length one
  in_one = omega (arith, one-length)

  pub in_two : i + 2 < length two
  in_two = omega (arith, two-length)

  pub in_three : i + 3 < length three
  in_three = omega (arith, three-length)

  pub in_four : i + 4 < length four
  in_four = omega (arith, four-length)

five-is : (i : ℕ) (xs : List Float) (e : Singular) (l : i + 5 ≤ length xs) → set (four i xs e l) (i + 4) e.side ≡ edge_at i (Collapsed e) xs
unfolding edge_at
five-is zero [] e l = absurd (omega arith)
five-is zero (a ∷ []) e l = absurd (omega arith)
five-is zero (a ∷ (b ∷ [])) e l = absurd (omega arith)
five-is zero (a ∷ (b ∷ (c ∷ []))) e l = absurd (omega arith)
five-is zero (a ∷ (b ∷ (c ∷ (d ∷ [])))) e l = absurd (omega arith)
five-is zero (a ∷ (b ∷ (c ∷ (d ∷ (f ∷ xs))))) e l = refl
five-is (suc i) [] e l = absurd (omega arith)
five-is (suc i) (x ∷ xs) e l =
    let h = five-is i xs e (omega arith) in
    let k = simp unary_clauses at h in
    simp unary_clauses (ap (λ ys. x ∷ ys) k)

pub five : (i : ℕ) (xs : List Float) (e : Singular) (l : i + 5 ≤ length xs) {f : Edge} → f ≡ Collapsed e → set (four i xs e l) (i + 4) e.side ≡ edge_at i f xs
five i xs e l h = five-is i xs e l ∙ ap (λ f. edge_at i f xs) (sym h)

pub four-edges : (a b c d : Edge) (xs : List Float) {p q r s : List Float} → p ≡ edge_at 0 a xs → q ≡ edge_at 5 b p → r ≡ edge_at 10 c q → s ≡ edge_at 15 d r → s ≡ edge_at 15 d (edge_at 10 c (edge_at 5 b (edge_at 0 a xs)))
four-edges a b c d xs h i j k = k ∙ ap (edge_at 15 d) (j ∙ ap (edge_at 10 c) (i ∙ ap (edge_at 5 b) h))

-- ---- the edges

abbrev tell : ℕ → List ℕ → List Float → Tells
tell number collapsed edges = record { number = number; collapsed = collapsed; edges = edges }

pub told-refusal : (ns : List ℕ) (xs : List Float) {f : Edges} {n : ℕ} → f ≡ Edges.Refusal n → tell n ns xs ≡ edges_into f ns xs
unfolding edges_into
told-refusal ns xs h = rw h refl

pub told-found : (ns : List ℕ) (xs : List Float) {f : Edges} {a b c d : Edge} → f ≡ Edges.Found a b c d → {ms : List ℕ} → ms ≡ flag_of a ∷ (flag_of b ∷ (flag_of c ∷ (flag_of d ∷ drop 4 ns)))
    → {ys : List Float} → ys ≡ edge_at 15 d (edge_at 10 c (edge_at 5 b (edge_at 0 a xs))) → tell 0 ms ys ≡ edges_into f ns xs
unfolding edges_into
told-found ns xs h p q = rw h (rw p (rw q refl))
