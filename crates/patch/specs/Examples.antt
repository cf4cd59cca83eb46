-- A patch of degrees 1 and 1 over the unit square, and second derivatives that overflow, computed.
use Rattle.std.specs.Prelude.{◌≡◌, refl, false, ℕ, pos, Float}
use Rattle.std.specs.Float.{fin, binary64}
use Rattle.std.specs.Float.Ieee.{neg, of_bits}
use Rattle.float64.specs.Operators.{0·, ½·, 1·}
use Rattle.vector3.specs.declared.Vector3.{Vector3}
use Rattle.basis.specs.Basis.{three}
use Rattle.patch.specs.declared.Sum.{Sum}
use Rattle.patch.specs.declared.Evaluated.{Evaluated}
use Rattle.patch.specs.declared.Evaluated.TheVariants.{Found, Refused}
use Rattle.patch.specs.Patch.{empty_sum, empty_sums, add_control, rational}
use Rattle.patch.specs.Compute.{compute}

at : Float → Float → Vector3
at x y = record { x = x; y = y; z = 0· }

-- the functions' values are a0 and a1 along u and b0 and b1 along v, and their slopes -1 and 1; w is the first control's weight
square : Float → Float → Float → Float → Float → Evaluated
square w a0 a1 b0 b1 =
    let down = neg 1· in
    rational
    (add_control (three a1 1· 0·) (three b1 1· 0·) 1· (at 1· 1·)
    (add_control (three a1 1· 0·) (three b0 down 0·) 1· (at 1· 0·)
    (add_control (three a0 down 0·) (three b1 1· 0·) 1· (at 0· 1·)
    (add_control (three a0 down 0·) (three b0 down 0·) w (at 0· 0·) empty_sums))))

middle : square 1· ½· ½· ½· ½· ≡ Found (record { point = at ½· ½·; u = at 1· 0·; v = at 0· 1· })
unfolding compute square at
middle = refl

-- a weight of 2 ^ -1074: the first derivatives overflow at its corner
corner : square (of_bits binary64 1) 1· 0· 1· 0· ≡ Refused
unfolding compute square at
corner = refl

-- a point at rest whose second derivative along v is 2 ^ (n + 1)
bent : ℕ → Evaluated
bent n =
    let rest : Sum = record { w = ½·; x = 0·; y = 0·; z = 0· } in
    let turn : Sum = record { w = 0·; x = fin false 1 (pos n); y = 0·; z = 0· } in
    rational (record { value = rest; u = empty_sum; v = empty_sum; uu = empty_sum; uv = empty_sum; vv = turn })

largest : bent 1022 ≡ Found (record { point = at 0· 0·; u = at 0· 0·; v = at 0· 0· })
unfolding compute bent at
largest = refl

overflow : bent 1023 ≡ Refused
unfolding compute bent
overflow = refl
