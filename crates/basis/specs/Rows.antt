-- What the functions below `basis_on_side` answer: the terms of a sum, and rows that hold the functions of a degree, a column each. Definitions only.
use Rattle.std.specs.Prelude.{◌≡◌, Bool, true, false, cond, ◌&&◌, List, [], ℕ, ◌+◌, ◌≤◌, ◌<◌, length, get_or, replicate, Float}
use Rattle.std.specs.Float.{nan}
use Rattle.std.specs.Float.Ieee.{eq}
use Rattle.float64.specs.Operators.{◌⊕◌, ◌⊖◌, ◌⊗◌, ◌⊘◌, 0·}
use Rattle.float64.specs.Functions.{is_finite}
use Rattle.basis.specs.Basis.{Cell, none, cell, checked, N}
use Rattle.basis.specs.declared.Basis.{Basis}
use Rattle.basis.specs.declared.Entry.{Entry}
use Rattle.basis.specs.declared.Place.{Place}
use Rattle.basis.specs.declared.Term.{Term}

abbrev pub Rows : Type 0
Rows = List (List Float)

abbrev pub blank : Rows
blank = replicate 3 (replicate 18 0·)

abbrev pub cell_of : Entry → Cell
cell_of e = checked e.value e.first e.second

abbrev pub finite : Entry → Bool
finite e = is_finite e.value && is_finite e.first && is_finite e.second

-- a term that is not there adds nothing
abbrev pub absent : Term
absent = record { present = false; rising = 0·; falling = 0·; first = 0·; second = 0· }

-- the terms of the function at i, whose value is x and whose first derivative is y, in the sums of degree d, which is n as a float
unfoldable pub term_at : List Float → ℕ → ℕ → Float → Float → Float → Float → Term
term_at ks i d n u x y =
    let s = get_or ks i nan in
    let t = get_or ks (i + d) nan in
    let l = t ⊖ s in
    cond (eq l 0·) absent (record { present = true; rising = (u ⊖ s) ⊘ l ⊗ x; falling = (t ⊖ u) ⊘ l ⊗ x; first = n ⊗ (x ⊘ l); second = n ⊗ (y ⊘ l) })

-- the sum of a rising and a falling term
unfoldable pub mix_of : Term → Term → Entry
mix_of a b =
    let x = 0· ⊕ a.rising in
    let y = 0· ⊕ a.first in
    let z = 0· ⊕ a.second in
    cond b.present (record { value = x ⊕ b.falling; first = y ⊖ b.first; second = z ⊖ b.second }) (record { value = x; first = y; second = z })

-- the number in row r, column k
abbrev pub entry : Rows → ℕ → ℕ → Float
entry rows r k = get_or (get_or rows r []) k nan

abbrev pub column : Rows → ℕ → Cell
column rows k = cell (entry rows 0 k) (entry rows 1 k) (entry rows 2 k)

pub record Shaped (rows : Rows) : Type 0 where
  pub tall : length rows ≡ 3
  pub wide : (r : ℕ) → r < 3 → length (get_or rows r []) ≡ 18

-- the columns are f
pub record Columns (rows : Rows) (f : ℕ → Cell) : Type 0 where
  pub shape : Shaped rows
  pub same : (k : ℕ) → k < 18 → column rows k ≡ f k

-- a function of degree d that is none, with the span j in its support
pub record Broken (ks : List Float) (u : Float) (j d : ℕ) : Type 0 where
  pub index : ℕ
  pub low : index ≤ j
  pub high : j ≤ index + d
  pub missing : N ks u j d index ≡ none

-- what raising rows to the degree d says: that they are the functions from i on, or that one of these is none
abbrev pub Raised : List Float → Float → ℕ → ℕ → ℕ → Bool → Rows → Type 0
Raised ks u j d i true rows = Columns rows (λ k. N ks u j d (i + k))
Raised ks u j d i false rows = Broken ks u j d

abbrev pub basis_of : Place → Rows → Basis
basis_of p rows = record { found = p.found; start = p.start; values = get_or rows 0 []; firsts = get_or rows 1 []; seconds = get_or rows 2 [] }
