-- One mark of a row, as it is placed. Definitions only.
use Rattle.std.specs.Prelude.{ℕ, ◌+◌, ◌*◌, List, ◌∷◌, drop, get_or, Float}
use Rattle.std.specs.Float.{nan}
use Rattle.vector3.specs.declared.Vector3.{Vector3}
use Rattle.inversion.specs.declared.Choice.{Choice}
use Rattle.row_step.specs.declared.Stepped.{Stepped}
use Rattle.row_step.specs.declared.Stepped.TheVariants.{Placed, Refusal}

abbrev pub mark_at : List Float → ℕ → Vector3
mark_at ms i = record { x = get_or ms (3 * i) nan; y = get_or ms (3 * i + 1) nan; z = get_or ms (3 * i + 2) nan }

-- two of a mark placed at the front of what is lent; a refusal leaves it
unfoldable pub fronted : {A : Type 0} → (Choice → A) → (Choice → A) → Stepped → List A → List A
fronted first second (Placed c p) rest = first c ∷ (second c ∷ drop 2 rest)
fronted first second (Refusal number left) rest = rest
