-- A worked case: degree 2 on the knots 0 0 0 1 1 1, in the middle. Assumes nothing.
use Rattle.std.specs.Prelude.{◌≡◌, refl, true, false, [], ◌∷◌, pos, negsuc}
use Rattle.std.specs.Float.{fin}
use Rattle.float64.specs.Operators.{0·, ½·, 1·}
use Rattle.spline.specs.Knots.{axis}
use Rattle.spline.specs.declared.parameter.KnotSide.TheVariants.{Right}
use Rattle.basis.specs.Basis.{three, sample, basis_at}
use Rattle.basis.specs.Compute.{compute}

-- values 0.25 0.5 0.25, first derivatives -1 0 1, second 2 -4 2
pub quadratic : basis_at (axis 2 3 (0· ∷ 0· ∷ 0· ∷ 1· ∷ 1· ∷ 1· ∷ [])) Right ½· ≡ sample 0 (
    three (fin false 1 (negsuc 1)) (fin true 1 (pos 0)) (fin false 1 (pos 1))
    ∷ three (fin false 1 (negsuc 0)) (fin false 0 (pos 0)) (fin true 1 (pos 2))
    ∷ three (fin false 1 (negsuc 1)) (fin false 1 (pos 0)) (fin false 1 (pos 1))
    ∷ [])
unfolding compute
quadratic = refl
