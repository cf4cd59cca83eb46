-- What is left of a basis where its second derivatives, or all derivatives, are not worked out. Definitions only.
use Rattle.std.specs.Prelude.{◌≡◌, cond, List, map, ℕ, suc, ◌≤◌, ◌<◌, length, get_or, take, Float}
use Rattle.std.specs.Float.{nan}
use Rattle.basis.specs.Basis.{Cell, none, cell, N, Three, three, Sample, refused, sample}
use Rattle.basis.specs.declared.Place.{Place}

-- ---- of a sample

abbrev pub value_of : Three → Float
value_of (three x y z) = x

abbrev pub first_of : Three → Float
first_of (three x y z) = y

-- where the functions start, and one number of each
pub data Part : Type 0 where
  nothing : Part
  part : ℕ → List Float → Part

unfoldable pub part_of : (Three → Float) → Sample → Part
part_of f refused = nothing
part_of f (sample i ts) = part i (map f ts)

-- what a row says of the functions of a degree
unfoldable pub shown_part : ℕ → Place → List Float → Part
shown_part degree p row = cond p.found (part p.start (take (suc degree) row)) nothing

-- ---- of the triangle

abbrev pub value_in : Cell → Float
value_in none = nan
value_in (cell x y z) = x

abbrev pub first_in : Cell → Float
first_in none = nan
first_in (cell x y z) = y

-- the numbers of a row are f
pub record Row (row : List Float) (f : ℕ → Float) : Type 0 where
  pub wide : length row ≡ 18
  pub same : (k : ℕ) → k < 18 → get_or row k nan ≡ f k

-- no function up to the degree p is none
abbrev pub Unbroken : List Float → Float → ℕ → ℕ → Type 0
Unbroken ks u j p = (d i : ℕ) → d ≤ p → N ks u j d i ≡ none → ⊥
