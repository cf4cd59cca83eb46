-- The rows of the table of cases on weights, by computation.
use Rattle.std.specs.Prelude.{◌≡◌, refl, false, [], ◌∷◌, negsuc}
use Rattle.std.specs.Float.{fin}
use Rattle.float64.specs.Operators.{1·, 2·}
use Rattle.spline.specs.declared.weights.Weighed.TheVariants.{Scale, Refused}
use Rattle.spline.specs.Weights.{weighed}
use Rattle.spline.specs.Compute.{compute}

-- 2 ^ -1074 and 1
pub smallest-beside-one : weighed (fin false 1 (negsuc 1073) ∷ 1· ∷ []) ≡ Scale 1·
unfolding compute
smallest-beside-one = refl

-- 2 ^ -1074 and 2: the quotient rounds to 0
pub smallest-beside-two : weighed (fin false 1 (negsuc 1073) ∷ 2· ∷ []) ≡ Refused
unfolding compute
smallest-beside-two = refl
