-- Two distances, computed.
use Rattle.std.specs.Prelude.{◌≡◌, refl, true, false, pos, Float}
use Rattle.std.specs.Float.{inf, fin}
use Rattle.float64.specs.Operators.{0·}
use Rattle.vector3.specs.declared.Vector3.{Vector3}
use Rattle.vector3.specs.Vector3.{distance}
use Rattle.vector3.specs.Compute.{compute}

at : Float → Float → Vector3
at x y = record { x = x; y = y; z = 0· }

three-four-five : distance (at 0· 0·) (at (fin false 3 (pos 0)) (fin false 1 (pos 2))) ≡ fin false 5 (pos 0)
unfolding compute at
three-four-five = refl

-- finite coordinates, and the square overflows
far : distance (at 0· 0·) (at (fin true 1 (pos 1000)) 0·) ≡ inf false
unfolding compute at
far = refl
