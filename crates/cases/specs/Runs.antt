-- Runs, computed: on the unit square of a plane, on one that is all one point, and on a parabola. They end in each of the five ways, after as many roots as evaluations.
use Rattle.std.specs.Prelude.{◌≡◌, refl, true, false, [], ◌∷◌, pos, negsuc, Float}
use Rattle.std.specs.Float.{fin}
use Rattle.std.specs.Float.Ieee.{neg}
use Rattle.float64.specs.Operators.{◌⊕◌, ◌⊗◌, 0·, ½·, 1·, 1e-6}
use Rattle.float64.specs.Functions.{root}
use Rattle.vector3.specs.declared.Vector3.{Vector3}
use Rattle.patch.specs.declared.Evaluated.{Evaluated}
use Rattle.patch.specs.declared.Evaluated.TheVariants.{Found}
use Rattle.price.specs.Price.{answered}
use Rattle.domain.specs.declared.Domain.{Domain}
use Rattle.newton.specs.declared.Iterate.{Iterate}
use Rattle.newton.specs.declared.Ending.TheVariants.{Unchanged, Further, SmallStep, SecondSingular, AllRounds}
use Rattle.newton.specs.Run.{finish, finished, nudges}
use Rattle.newton.specs.Visits.{visits}
use Rattle.newton.specs.Compute.{compute}

unit : Domain
unit = record { u = record { low = 0·; high = 1·; periodic = false }; v = record { low = 0·; high = 1·; periodic = false } }

at : Float → Float → Vector3
at x y = record { x = x; y = y; z = 0· }

square : Float → Float → Evaluated
square u v = Found (record { point = at u v; u = at 1· 0·; v = at 0· 1· })

dot : Float → Float → Evaluated
dot u v = Found (record { point = at 0· 0·; u = at 0· 0·; v = at 0· 0· })

¼· : Float
¼· = ½· ⊗ ½·

¾· : Float
¾· = ½· ⊕ ¼·

-- one step, and then the pair does not change
steps : finished unit (record { x = ¼·; y = ½·; z = ¾· }) square ½· ½· ≡ answered (finish (record { u = ¼·; v = ½·; distance = ¾· }) Unchanged 2) 2
unfolding compute unit at square ¼· ¾·
steps = refl

-- 2^-53
tiny : Float
tiny = fin false 1 (negsuc 52)

-- one step, of less than 1e-15 of the domain
lands : finished unit (at (½· ⊕ tiny) ½·) square ½· ½· ≡ answered (finish (record { u = ½· ⊕ tiny; v = ½·; distance = 0· }) SmallStep 2) 2
unfolding compute unit at square tiny
lands = refl

visited : visits unit (record { x = ¼·; y = ½·; z = ¾· }) square ½· ½· ≡ (½·, ½·) ∷ (¼·, ½·) ∷ []
unfolding compute unit at square ¼· ¾·
visited = refl

-- (3, 4, 0), 5 from the origin
mark : Vector3
mark = record { x = fin false 3 (pos 0); y = fin false 1 (pos 2); z = 0· }

-- nudged, and over where it is singular again
stops : finished unit mark dot 0· 0· ≡ answered (finish (record { u = 1e-6 ⊗ ½·; v = 1e-6 ⊗ ½·; distance = fin false 5 (pos 0) }) SecondSingular 2) 2
unfolding compute unit at dot mark
stops = refl

-- the surface (u, v, u * u) over -1 to 1 and 0 to 1: the step from (1/8, 0) leads too far
valley : Domain
valley = record { u = record { low = neg 1·; high = 1·; periodic = false }; v = record { low = 0·; high = 1·; periodic = false } }

parabola : Float → Float → Evaluated
parabola u v = Found (record { point = record { x = u; y = v; z = u ⊗ u }; u = record { x = 1·; y = 0·; z = u ⊕ u }; v = at 0· 1· })

⅛· : Float
⅛· = fin false 1 (negsuc 2)

-- √(4289 / 4096), from the mark (0, 0, -1)
returns : finished valley (record { x = 0·; y = 0·; z = neg 1· }) parabola ⅛· 0· ≡ answered (finish (record { u = ⅛·; v = 0·; distance = root (fin false 4289 (negsuc 11)) }) Further 2) 2
unfolding compute at valley parabola ⅛·
returns = refl

-- over 0 to 1, from (1/2, 0) towards the mark (0, 0, 1/2): no step leads further, and none is small
goes_on : (p : Iterate) × (finished unit (record { x = 0·; y = 0·; z = ½· }) parabola ½· 0· ≡ answered (finish p AllRounds 33) 33)
unfolding compute unit at parabola
goes_on = (_, refl)

nudged : nudges unit mark dot 0· 0· ≡ true
unfolding compute unit at dot mark
nudged = refl
