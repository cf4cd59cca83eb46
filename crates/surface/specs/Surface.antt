-- A NURBS surface: when it is accepted, and its evaluation. Definitions only.
use Rattle.std.specs.Prelude.{Bool, not, cond, ◌&&◌, ◌||◌, List, ℕ, zero, suc, ◌+◌, ◌*◌, ltb, eqb, length, get_or, Float, []}
use Rattle.std.specs.Float.{nan}
use Rattle.float64.specs.Operators.{0·}
use Rattle.spline.specs.declared.parameter.KnotSide.TheVariants.{Right}
use Rattle.spline.specs.Weights.{largest, weighed}
use Rattle.spline.specs.Weights as Weights
use Rattle.spline.specs.Knots.{Axis, axis, low, high, all_finite, refusal_of_knots}
use Rattle.basis.specs.Basis.{Three, three, Sample, refused, sample, basis_at}
use Rattle.patch.specs.declared.Sums.{Sums}
use Rattle.patch.specs.declared.Evaluated.{Evaluated}
use Rattle.patch.specs.Patch.{add_control, empty_sums, rational}
use Rattle.domain.specs.declared.Shape.{Shape}
use Rattle.domain.specs.declared.Domain.{Domain}
use Rattle.domain.specs.Intervals.{axis_of, domain_on, wrapped}
use Rattle.domain.specs.Windows.{misfits, window_in}
use Rattle.surface.specs.declared.Checked.{Checked}
use Rattle.surface.specs.declared.Checked.TheVariants as Check
use Rattle.surface.specs.declared.Evaluation.{Evaluation}
use Rattle.surface.specs.declared.Evaluation.TheVariants.{Found, Refusal}
use Rattle.net.specs.Sums.{heaviest, weight_by, sum_over}

pub record Surface : Type 0 where
  pub shape : Shape
  pub knots_u : List Float
  pub knots_v : List Float
  pub controls : List Float
  pub weights : List Float

abbrev pub surface : Shape → List Float → List Float → List Float → List Float → Surface
surface shape ku kv cs ws = record { shape = shape; knots_u = ku; knots_v = kv; controls = cs; weights = ws }

-- without its controls
abbrev pub bare : Shape → List Float → List Float → Surface
bare shape ku kv = surface shape ku kv [] []

abbrev pub axis_u : Surface → Axis
axis_u s = axis s.shape.u.degree s.shape.u.controls s.knots_u

abbrev pub axis_v : Surface → Axis
axis_v s = axis s.shape.v.degree s.shape.v.controls s.knots_v

-- the knot domain of both axes
abbrev pub domain_of : Surface → Domain
domain_of s = domain_on s.shape s.knots_u s.knots_v

-- where marks may lie
abbrev pub window_of : Surface → Domain
window_of s = window_in s.shape.window (domain_of s)

-- how many controls there are to be
abbrev pub total : Surface → ℕ
total s = s.shape.u.controls * s.shape.v.controls

-- ---- when a surface is accepted: the numbers of 01's table, in its order, and 02's 24 after them; 0 is no refusal

-- the first that refuses
unfoldable pub or_else : ℕ → ℕ → ℕ
or_else zero n = n
or_else (suc k) n = suc k

abbrev pub when : Bool → ℕ → ℕ
when b n = cond b n 0

-- counts out of range are too large too
unfoldable pub too_large : Surface → Bool
too_large s = ltb 100000 (total s) || ltb 100034 (length s.knots_u + length s.knots_v)

-- three coordinates a control
unfoldable pub miscounted : Surface → Bool
miscounted s = not (eqb (length s.controls) (3 * total s) && eqb (length s.weights) (total s))

unfoldable pub refusal_of_surface : Surface → ℕ
refusal_of_surface s =
    or_else (when (too_large s) 1)
    (or_else (when (miscounted s) 2)
    (or_else (when (not (all_finite s.controls)) 3)
    (or_else (Weights.refusal_of (weighed s.weights))
    (or_else (refusal_of_knots (axis_u s))
    (or_else (refusal_of_knots (axis_v s)) (when (misfits s.shape.window (domain_of s)) 24))))))

-- the last of them, of the axes and the window alone: 5 and 6 for u, 5 and 6 for v, 24
abbrev pub refusal_of_axes : Shape → List Float → List Float → ℕ
refusal_of_axes shape ku kv =
    or_else (refusal_of_knots (axis_of shape.u ku)) (or_else (refusal_of_knots (axis_of shape.v kv)) (when (misfits shape.window (domain_on shape ku kv)) 24))

-- the largest weight
abbrev pub scale_of : Surface → Float
scale_of s = largest 0· s.weights

unfoldable pub judged : Float → ℕ → Checked
judged m zero = Check.Scale m
judged m (suc k) = Check.Refusal (suc k)

unfoldable pub checked : Surface → Checked
checked s = judged (scale_of s) (refusal_of_surface s)

-- ---- the evaluation of an accepted surface whose largest weight is m

abbrev pub function_at : List Three → ℕ → Three
function_at ts n = get_or ts n (three nan nan nan)

-- the sums by functions us and vs, which start at row i and column j
unfoldable pub sums : Surface → Float → ℕ → ℕ → List Three → List Three → Sums
sums s m i j us vs =
    let most = heaviest s.shape i j s.weights m in
    sum_over s.shape i j add_control s.controls (function_at us) (function_at vs) (weight_by s.shape i j s.weights m most) empty_sums

unfoldable pub blended : Surface → Float → Sample → Sample → Evaluated
blended s m refused y = Evaluated.Refused
blended s m (sample i us) refused = Evaluated.Refused
blended s m (sample i us) (sample j vs) = rational (sums s m i j us vs)

abbrev pub sample_u : Surface → Float → Sample
sample_u s x = let a = axis_u s in basis_at a Right (wrapped s.shape.u.periodic (low a) (high a) x)

abbrev pub sample_v : Surface → Float → Sample
sample_v s y = let a = axis_v s in basis_at a Right (wrapped s.shape.v.periodic (low a) (high a) y)

unfoldable pub evaluate_by : Surface → Float → Float → Float → Evaluated
evaluate_by s m x y = blended s m (sample_u s x) (sample_v s y)

-- ---- the call that tests its own input

unfoldable pub or_nine : Evaluated → Evaluation
or_nine Evaluated.Refused = Refusal 9
or_nine (Evaluated.Found j) = Found j

unfoldable pub evaluated_by : Surface → Checked → Float → Float → Evaluation
evaluated_by s (Check.Refusal n) x y = Refusal n
evaluated_by s (Check.Scale m) x y = or_nine (evaluate_by s m x y)

unfoldable pub evaluated : Surface → Float → Float → Evaluation
evaluated s x y = evaluated_by s (checked s) x y

-- ---- 01's number of an answer, 0 where there is none

unfoldable pub number_of_checked : Checked → ℕ
number_of_checked (Check.Scale m) = 0
number_of_checked (Check.Refusal n) = n

unfoldable pub number_of : Evaluation → ℕ
number_of (Found j) = 0
number_of (Refusal n) = n
