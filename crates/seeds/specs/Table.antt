-- The values of the functions at the grid's values as the walk keeps them, and the point of an evaluation. Definitions only.
use Rattle.std.specs.Prelude.{◌≡◌, Bool, true, List, [], ℕ, suc, ◌-◌, ◌<◌, length, get_or, Float}
use Rattle.std.specs.Float.{nan}
use Rattle.basis.specs.Parts.{value_of, part_of, shown_part}
use Rattle.patch.specs.declared.Evaluated.{Evaluated}
use Rattle.domain.specs.declared.Counts.{Counts}
use Rattle.surface.specs.Surface.{Surface}
use Rattle.surface.specs.Lent.{sample_on}
use Rattle.net.specs.Net.{Patch, WeighedNet}
use Rattle.scaled.specs.declared.Accepted.{Accepted}
use Rattle.scaled.specs.Accepted.{Accepts}
use Rattle.seeds.specs.declared.Node.{Node}
use Rattle.seeds.specs.declared.Located.{Located}
use Rattle.seeds.specs.declared.Located.TheVariants.{At, Refused}

unfoldable pub located : Evaluated → Located
located Evaluated.Refused = Refused
located (Evaluated.Found j) = At j.point

-- Where `first` is one more than a start, the row holds the values of the functions at t from there on.
abbrev pub Known : Bool → Counts → List Float → Float → ℕ → List Float → Type 0
Known bounded n ks t first row =
    (i : ℕ) → first ≡ suc i → (bounded ≡ true) × (shown_part n.degree (record { found = true; start = i }) row ≡ part_of value_of (sample_on n ks t))

-- the same of the first k of ts
pub record Tabled (bounded : Bool) (n : Counts) (ks ts : List Float) (k : ℕ) (table : List (List Float)) (firsts : List ℕ) : Type 0 where
  pub rows : length table ≡ 193
  pub places : length firsts ≡ 193
  pub known : (j : ℕ) → j < k → Known bounded n ks (get_or ts j nan) (get_or firsts j 0) (get_or table j [])

-- the net holds the weights of the patch where both start
pub record NetFor (a : Accepted) (ws : List Float) (row column : ℕ) (net : List Float) : Type 0 where
  pub whole : length net ≡ 289
  pub weighed : (i j : ℕ) → row ≡ suc i → column ≡ suc j → WeighedNet a.shape ws a.largest i j net

-- the functions of both axes start at a patch
pub record Starting (a : Accepted) (n : Node) : Type 0 where
  pub row : 0 < n.row
  pub column : 0 < n.column
  pub patch : Patch a.shape (n.row - 1) (n.column - 1)

-- what is known at a node before its evaluation
pub record Prepared (a : Accepted) (s : Surface) (n : Node) (us vs net : List Float) : Type 0 where
  pub accepts : Accepts s a
  pub functions_u : Known a.bounded s.shape.u s.knots_u n.u n.row us
  pub functions_v : Known a.bounded s.shape.v s.knots_v n.v n.column vs
  pub weights : NetFor a s.weights n.row n.weighed net
