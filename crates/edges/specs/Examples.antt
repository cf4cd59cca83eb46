-- Computed: a surface that is all one point, at the least tolerance, and which tolerances are none.
use Rattle.std.specs.Prelude.{◌≡◌, refl, true, false, List, [], ◌∷◌, ℕ, Float}
use Rattle.std.specs.Float.{nan, inf}
use Rattle.std.specs.Float.Ieee.{neg}
use Rattle.float64.specs.Operators.{0·, 1·}
use Rattle.domain.specs.declared.Counts.{Counts}
use Rattle.domain.specs.declared.Window.TheVariants.{Whole}
use Rattle.surface.specs.Surface.{Surface, surface}
use Rattle.edges.specs.declared.Edge.{Edge}
use Rattle.edges.specs.declared.Edge.TheVariants.{Collapsed}
use Rattle.edges.specs.declared.Edges.TheVariants.{Found, Refusal}
use Rattle.edges.specs.Edges.{sound_tolerance, singular}
use Rattle.edges.specs.Compute.{compute}

linear : Counts
linear = record { degree = 1; controls = 2; periodic = false }

ends : List Float
ends = 0· ∷ 0· ∷ 1· ∷ 1· ∷ []

-- all controls are the origin
dot : Surface
dot = surface (record { u = linear; v = linear; window = Whole }) ends ends (0· ∷ 0· ∷ 0· ∷ 0· ∷ 0· ∷ 0· ∷ 0· ∷ 0· ∷ 0· ∷ 0· ∷ 0· ∷ 0· ∷ []) (1· ∷ 1· ∷ 1· ∷ 1· ∷ [])

origin : ℕ → Float → Float → Edge
origin k value side = Collapsed (record { k = k; value = value; point = record { x = 0·; y = 0·; z = 0· }; side = side })

dot-collapses : singular dot 0· ≡ Found (origin 0 0· 1·) (origin 0 1· (neg 1·)) (origin 1 0· 1·) (origin 1 1· (neg 1·))
unfolding compute dot linear ends origin
dot-collapses = refl

minus-zero : sound_tolerance (neg 0·) ≡ true
unfolding compute
minus-zero = refl

below-zero : singular dot (neg 1·) ≡ Refusal 7
unfolding compute dot linear ends
below-zero = refl

not-a-number : sound_tolerance nan ≡ false
unfolding compute
not-a-number = refl

infinite : sound_tolerance (inf false) ≡ false
unfolding compute
infinite = refl
