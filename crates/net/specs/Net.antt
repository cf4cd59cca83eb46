-- A patch as the functions that sum over it hold it: its weights in an array, row by row, and the functions of each axis in rows. Definitions only.
use Rattle.std.specs.Prelude.{◌≡◌, List, ℕ, ◌+◌, ◌*◌, ◌≤◌, ◌<◌, length, get_or, Float}
use Rattle.std.specs.Float.{nan}
use Rattle.float64.specs.Operators.{◌⊗◌}
use Rattle.vector3.specs.declared.Vector3.{Vector3}
use Rattle.basis.specs.Basis.{Three, three}
use Rattle.basis.specs.Rows.{Rows, entry}
use Rattle.patch.specs.declared.Sum.{Sum}
use Rattle.patch.specs.declared.Sums.{Sums}
use Rattle.patch.specs.Patch.{more, add_control, empty_sum, empty_sums}
use Rattle.domain.specs.declared.Shape.{Shape}
use Rattle.net.specs.Sums.{rows_of, columns_of, weight_in, sum_over}

-- a patch that starts at a row and a column lies in the net of controls
pub record Patch (shape : Shape) (row column : ℕ) : Type 0 where
  pub rows-most : shape.u.degree ≤ 16
  pub columns-most : shape.v.degree ≤ 16
  pub down : row + shape.u.degree < shape.u.controls
  pub across : column + shape.v.degree < shape.v.controls
  pub few-rows : shape.u.controls ≤ 100000
  pub few : shape.u.controls * shape.v.controls ≤ 100000

-- ---- the weights

-- the net holds f of each control of so many rows and columns
pub record Holds (rows columns : ℕ) (f : ℕ → ℕ → Float) (net : List Float) : Type 0 where
  pub whole : length net ≡ 289
  pub each : (i j : ℕ) → i < rows → j < columns → get_or net (i * columns + j) nan ≡ f i j

abbrev pub WeighedNet : Shape → List Float → Float → ℕ → ℕ → List Float → Type 0
WeighedNet shape ws m row column net = Holds (rows_of shape) (columns_of shape) (weight_in shape row column ws m) net

-- the net after k of f were put there from number `from` on
pub record Put (f : ℕ → Float) (from k : ℕ) (before net : List Float) : Type 0 where
  pub whole : length net ≡ 289
  pub there : (q : ℕ) → q < k → get_or net (from + q) nan ≡ f q
  pub below : (q : ℕ) → q < from → get_or net q nan ≡ get_or before q nan
  pub beyond : (q : ℕ) → from + k ≤ q → get_or net q nan ≡ get_or before q nan

-- ---- the sums

abbrev pub three_at : Rows → ℕ → Three
three_at rows n = three (entry rows 0 n) (entry rows 1 n) (entry rows 2 n)

abbrev pub number_at : List Float → ℕ → Float
number_at row n = get_or row n nan

abbrev pub net_at : Shape → List Float → ℕ → ℕ → Float
net_at shape net i j = get_or net (i * columns_of shape + j) nan

-- a control more in one sum alone, by one number of each function
abbrev pub term : Float → Float → Float → Vector3 → Sum → Sum
term a b w p t = more (a ⊗ b ⊗ w) p t

-- all six, and one alone
module _ (shape : Shape) (cs : List Float) (row column : ℕ) (net : List Float) where
  unfoldable pub sums_by : Rows → Rows → Sums
  sums_by us vs = sum_over shape row column add_control cs (three_at us) (three_at vs) (net_at shape net) empty_sums

  unfoldable pub sum_by : List Float → List Float → Sum
  sum_by us vs = sum_over shape row column term cs (number_at us) (number_at vs) (net_at shape net) empty_sum
