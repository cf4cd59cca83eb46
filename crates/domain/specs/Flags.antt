-- A shape by two degrees, two counts of controls, flags and a window. Definitions only.
use Rattle.std.specs.Prelude.{ℕ, ◌/◌, ◌%◌, eqb}
use Rattle.domain.specs.declared.Window.{Window}
use Rattle.domain.specs.declared.Shape.{Shape}

-- a flag is a binary digit: the lowest for u periodic, the next for v
unfoldable pub shape_of : (du dv nu nv flags : ℕ) → Window → Shape
shape_of du dv nu nv flags w =
    record { u = record { degree = du; controls = nu; periodic = eqb (flags % 2) 1 }; v = record { degree = dv; controls = nv; periodic = eqb (flags / 2 % 2) 1 }; window = w }
