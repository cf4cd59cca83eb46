-- One number of an answer, by which bench/ sees that both sides did the same work. Definitions only.
use Rattle.std.specs.Prelude.{[], ◌∷◌, Float}
use Rattle.std.specs.Float.{nan}
use Rattle.float64.specs.Operators.{◌⊕◌}
use Rattle.basis.specs.Basis.{Sample, refused, sample, three}
use Rattle.patch.specs.declared.Evaluated.{Evaluated}
use Rattle.patch.specs.declared.Evaluated.TheVariants.{Found, Refused}

-- the first function's numbers, summed
unfoldable pub of_sample : Sample → Float
of_sample refused = nan
of_sample (sample i []) = nan
of_sample (sample i (three x y z ∷ ts)) = x ⊕ y ⊕ z

-- a number of the point and of each first derivative, summed
unfoldable pub of_jet : Evaluated → Float
of_jet Refused = nan
of_jet (Found j) = j.point.x ⊕ j.u.y ⊕ j.v.z
