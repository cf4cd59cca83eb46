-- When weights are accepted. Definitions only.
use Rattle.std.specs.Prelude.{Bool, true, false, not, cond, ◌&&◌, ◌||◌, List, [], ◌∷◌, ℕ, Float}
use Rattle.std.specs.Float.Ieee.{lt, eq}
use Rattle.float64.specs.Operators.{◌⊘◌, 0·}
use Rattle.float64.specs.Functions.{is_finite, max}
use Rattle.spline.specs.declared.weights.Weighed.{Weighed}
use Rattle.spline.specs.declared.weights.Weighed.TheVariants.{Scale, Refused}

-- each is finite and above 0
unfoldable pub sound : List Float → Bool
sound [] = true
sound (w ∷ ws) = is_finite w && lt 0· w && sound ws

-- the largest of m and the weights
unfoldable pub largest : Float → List Float → Float
largest m [] = m
largest m (w ∷ ws) = largest (max m w) ws

-- one of them, divided by m, is 0
unfoldable pub vanishing : Float → List Float → Bool
vanishing m [] = false
vanishing m (w ∷ ws) = eq (w ⊘ m) 0· || vanishing m ws

unfoldable pub is_empty : List Float → Bool
is_empty [] = true
is_empty (w ∷ ws) = false

unfoldable pub weighed : List Float → Weighed
weighed ws =
    let m = largest 0· ws in
    cond (is_empty ws || not (sound ws) || vanishing m ws) Refused (Scale m)

-- the number of the refusal in 01's table, 0 for none
unfoldable pub refusal_of : Weighed → ℕ
refusal_of (Scale m) = 0
refusal_of Refused = 4
