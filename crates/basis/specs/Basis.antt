-- The B-spline basis by The NURBS Book's recursion, equations 2.5 and 2.9, with the source's order of float operations. Definitions only.
use Rattle.std.specs.Prelude.{Bool, true, cond, ◌&&◌, List, [], ◌∷◌, ℕ, zero, suc, ◌+◌, ◌-◌, leb, eqb, get_or, Float}
use Rattle.std.specs.Float.{nan}
use Rattle.std.specs.Float.Ieee.{eq}
use Rattle.float64.specs.Operators.{◌⊕◌, ◌⊖◌, ◌⊗◌, ◌⊘◌, 0·, 1·, of_nat}
use Rattle.float64.specs.Functions.{is_finite}
use Rattle.spline.specs.Knots.{Axis, low, high, snapped, span_at}
use Rattle.spline.specs.declared.parameter.KnotSide.{KnotSide}
use Rattle.spline.specs.declared.parameter.Snapped.{Snapped}
use Rattle.spline.specs.declared.parameter.Snapped.TheVariants.{At, Outside}
use Rattle.basis.specs.declared.Basis.{Basis}

-- a function's value, first and second derivative, or none where a number on the way is not finite
pub data Cell : Type 0 where
  none : Cell
  cell : Float → Float → Float → Cell

unfoldable pub checked : Float → Float → Float → Cell
checked x y z = cond (is_finite x && is_finite y && is_finite z) (cell x y z) none

-- the right-hand term of the sum added to x y z: t is its knot, r its denominator, d the degree
unfoldable pub right : Float → Float → Float → Float → Float → Float → Float → Float → Float → Cell
right u d r t b0 b1 x y z =
    cond (eq r 0·) (checked x y z)
    (checked (x ⊕ (t ⊖ u) ⊘ r ⊗ b0) (y ⊖ d ⊗ (b0 ⊘ r)) (z ⊖ d ⊗ (b1 ⊘ r)))

-- The sum of degree d at i, of the functions of degree d - 1 at i and i + 1. A term whose denominator is 0 is 0.
unfoldable pub blend : List Float → Float → ℕ → ℕ → Cell → Cell → Cell
blend ks u d i none c = none
blend ks u d i (cell a0 a1 a2) none = none
blend ks u d i (cell a0 a1 a2) (cell b0 b1 b2) =
    let s = get_or ks i nan in
    let t = get_or ks (i + d + 1) nan in
    let l = get_or ks (i + d) nan ⊖ s in
    let r = t ⊖ get_or ks (i + 1) nan in
    let n = of_nat d in
    cond (eq l 0·) (right u n r t b0 b1 0· 0· 0·)
    (right u n r t b0 b1 (0· ⊕ (u ⊖ s) ⊘ l ⊗ a0) (0· ⊕ n ⊗ (a0 ⊘ l)) (0· ⊕ n ⊗ (a1 ⊘ l)))

abbrev pub zero_cell : Cell
zero_cell = cell 0· 0· 0·

abbrev pub unit_cell : Cell
unit_cell = cell 1· 0· 0·

-- the function of degree d and index i at u, which lies in the knot span j: 0 where the span is none of i to i + d
unfoldable pub N : List Float → Float → ℕ → ℕ → ℕ → Cell
N ks u j zero i = cond (eqb i j) unit_cell zero_cell
N ks u j (suc d) i = cond (leb i j && leb j (i + suc d)) (blend ks u (suc d) i (N ks u j d i) (N ks u j d (suc i))) zero_cell

-- the k functions of degree d from i on
unfoldable pub row : List Float → Float → ℕ → ℕ → ℕ → ℕ → List Cell
row ks u j d zero i = []
row ks u j d (suc k) i = N ks u j d i ∷ row ks u j d k (suc i)

pub data Three : Type 0 where
  three : Float → Float → Float → Three

-- what a basis answers: the first function that is not zero, and the numbers of each from there on; or nothing
pub data Sample : Type 0 where
  refused : Sample
  sample : ℕ → List Three → Sample

unfoldable pub finite_threes : List Three → Bool
finite_threes [] = true
finite_threes (three x y z ∷ ts) = is_finite x && is_finite y && is_finite z && finite_threes ts

unfoldable pub joined : Cell → Sample → Sample
joined none s = refused
joined (cell x y z) refused = refused
joined (cell x y z) (sample i ts) = sample i (three x y z ∷ ts)

unfoldable pub gathered : ℕ → List Cell → Sample
gathered i [] = sample i []
gathered i (c ∷ cs) = joined c (gathered i cs)

unfoldable pub sample_at : Axis → KnotSide → Snapped → Sample
sample_at a side Outside = refused
sample_at a side (At u) =
    let j = span_at a side u in
    let i = j - a.degree in
    gathered i (row a.knots u j a.degree (suc a.degree) i)

unfoldable pub basis_at : Axis → KnotSide → Float → Sample
basis_at a side t = sample_at a side (snapped (low a) (high a) t)

-- ---- what a `Basis` of the code says

-- the k functions from number j of the arrays on
unfoldable pub threes : Basis → ℕ → ℕ → List Three
threes b zero j = []
threes b (suc k) j = three (get_or b.values j nan) (get_or b.firsts j nan) (get_or b.seconds j nan) ∷ threes b k (suc j)

unfoldable pub shown : ℕ → Basis → Sample
shown degree b = cond b.found (sample b.start (threes b (suc degree) 0)) refused
