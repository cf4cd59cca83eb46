-- The sums over a patch, by lists of all controls and weights of the net. Definitions only.
use Rattle.std.specs.Prelude.{List, ℕ, zero, suc, ◌+◌, ◌*◌, get_or, Float}
use Rattle.std.specs.Float.{nan}
use Rattle.float64.specs.Operators.{◌⊘◌, 0·}
use Rattle.float64.specs.Functions.{max}
use Rattle.vector3.specs.declared.Vector3.{Vector3}
use Rattle.domain.specs.declared.Shape.{Shape}

-- t after k turns, which are numbered from 0 on
unfoldable pub turns : {T : Type 0} → (ℕ → T → T) → ℕ → T → T
turns f zero t = t
turns f (suc k) t = f k (turns f k t)

-- how many rows and columns of controls a patch has
abbrev pub rows_of : Shape → ℕ
rows_of shape = shape.u.degree + 1

abbrev pub columns_of : Shape → ℕ
columns_of shape = shape.v.degree + 1

-- a turn for each of them, row by row
abbrev pub over_patch : {T : Type 0} → Shape → (ℕ → ℕ → T → T) → T → T
over_patch shape f t = turns (λ i. turns (f i) (columns_of shape)) (rows_of shape) t

abbrev pub control_at : List Float → ℕ → Vector3
control_at cs n = record { x = get_or cs (3 * n) nan; y = get_or cs (3 * n + 1) nan; z = get_or cs (3 * n + 2) nan }

-- a weight divided by m, the largest of all
abbrev pub share_at : List Float → Float → ℕ → Float
share_at ws m n = get_or ws n nan ⊘ m

-- the patch that starts at a row and a column of the net
module _ (shape : Shape) (row column : ℕ) where
  -- the number of its control (i, j) in the net
  abbrev pub number_in : ℕ → ℕ → ℕ
  number_in i j = (row + i) * shape.v.controls + column + j

  module _ (ws : List Float) (m : Float) where
    abbrev pub share_in : ℕ → ℕ → Float
    share_in i j = share_at ws m (number_in i j)

    unfoldable pub heaviest : Float
    heaviest = over_patch shape (λ i j w. max w (share_in i j)) 0·

    -- divided by the largest of all and then by k, the largest of the patch: two roundings
    abbrev pub weight_by : Float → ℕ → ℕ → Float
    weight_by k i j = share_in i j ⊘ k

    abbrev pub weight_in : ℕ → ℕ → Float
    weight_in = weight_by heaviest

  -- The sum by functions a of u and b of v and by weights w. `more` adds a control.
  abbrev pub sum_over : {A B T : Type 0} → (A → B → Float → Vector3 → T → T) → List Float → (ℕ → A) → (ℕ → B) → (ℕ → ℕ → Float) → T → T
  sum_over more cs a b w t = over_patch shape (λ i j t. more (a i) (b j) (w i j) (control_at cs (number_in i j)) t) t
