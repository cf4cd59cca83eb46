-- The distance of a surface point from a finite mark is a number. Assumes nothing.
use Rattle.std.specs.Prelude.{◌≡◌, false, Float}
use Rattle.std.specs.Float.Ieee.{is_nan}
use Rattle.float64.specs.Nonneg.{nonneg→number}
use Rattle.vector3.specs.declared.Vector3.{Vector3}
use Rattle.vector3.specs.Laws.{Finite, distance-number}
use Rattle.patch.specs.declared.Jet.{Jet}
use Rattle.patch.specs.declared.Evaluated.TheVariants.{Found}
use Rattle.patch.specs.Patch.{from_mark}
use Rattle.surface.specs.Surface.{Surface, evaluate_by}
use Rattle.surface.specs.EvaluateLaws.{evaluate-finite}

pub from-mark-number : (s : Surface) (m : Float) (mark : Vector3) → Finite mark → (x y : Float) (j : Jet) → evaluate_by s m x y ≡ Found j → is_nan (from_mark mark j) ≡ false
unfolding from_mark
from-mark-number s m mark f x y j h = nonneg→number (distance-number j.point mark (evaluate-finite s m x y j h).point f)
