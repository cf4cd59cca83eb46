-- Two refused inversions with a hint, computed: what its run took is charged once.
use Rattle.std.specs.Prelude.{◌≡◌, refl, Bool, true, false, [], ◌∷◌, pos, negsuc, Float}
use Rattle.std.specs.Float.{fin}
use Rattle.float64.specs.Operators.{0·, ½·, 1·}
use Rattle.vector3.specs.declared.Vector3.{Vector3}
use Rattle.price.specs.Price.{refused}
use Rattle.domain.specs.declared.Counts.{Counts}
use Rattle.domain.specs.declared.Window.TheVariants.{Whole}
use Rattle.surface.specs.Surface.{Surface, surface}
use Rattle.inversion.specs.declared.Hint.TheVariants.{At}
use Rattle.inversion.specs.Inversion.{inversion_by}
use Rattle.inversion.specs.Compute.{compute}

-- 1.7e308
abbrev long : Float
long = fin false 4258857765019067 (pos 972)

-- 1e-10
abbrev thin : Float
thin = fin false 7737125245533627 (negsuc 85)

-- 1e300
abbrev far : Float
far = fin false 1681218273811815 (pos 946)

linear : Bool → Counts
linear periodic = record { degree = 1; controls = 2; periodic = periodic }

-- the Square, but for the flag of u, the upper end of v, and x of the last two controls
bilinear : Bool → Float → Float → Float → Surface
bilinear periodic high a b =
    surface (record { u = linear periodic; v = linear false; window = Whole }) (0· ∷ 0· ∷ 1· ∷ 1· ∷ []) (0· ∷ 0· ∷ high ∷ high ∷ [])
    (0· ∷ 0· ∷ 0· ∷ 0· ∷ 1· ∷ 0· ∷ a ∷ 0· ∷ 0· ∷ b ∷ 1· ∷ 0· ∷ []) (1· ∷ 1· ∷ 1· ∷ 1· ∷ [])

at : Float → Float → Vector3
at x z = record { x = x; y = 0·; z = z }

-- 2 evaluations of the hint's run and 3 of the grid, whose third v overflows
grid-refused : inversion_by (bilinear false long 1· 1·) 1· (at 0· 1·) (At 0· 0·) ½· ≡ refused 5
unfolding compute linear bilinear at
grid-refused = refl

-- 2 of the hint's run, 81 of the grid and 2 of the first start's run, which steps to infinity
run-refused : inversion_by (bilinear true 1· thin 0·) 1· (at far 0·) (At ½· 1·) ½· ≡ refused 85
unfolding compute linear bilinear at
run-refused = refl
