-- Computed: what the checks say where nothing is lent, and a weight that is divided twice.
use Rattle.std.specs.Prelude.{◌≡◌, refl, false, List, [], ◌∷◌, ℕ, pos, negsuc, Float}
use Rattle.std.specs.Float.{fin, binary64}
use Rattle.std.specs.Float.Ieee.{neg, of_bits}
use Rattle.float64.specs.Operators.{◌⊘◌, 0·, ½·, 1·, 2·}
use Rattle.vector3.specs.declared.Vector3.{Vector3}
use Rattle.basis.specs.Basis.{Three, three}
use Rattle.patch.specs.declared.Jet.{Jet}
use Rattle.patch.specs.declared.Evaluated.{Evaluated}
use Rattle.patch.specs.declared.Evaluated.TheVariants as Eval
use Rattle.patch.specs.Patch.{add_control, empty_sums, jet_of, rational}
use Rattle.domain.specs.declared.Counts.{Counts}
use Rattle.domain.specs.declared.Window.TheVariants.{Whole}
use Rattle.surface.specs.declared.Checked.{Checked}
use Rattle.surface.specs.declared.Checked.TheVariants.{Refusal}
use Rattle.surface.specs.declared.Evaluation.TheVariants.{Found}
use Rattle.net.specs.Sums.{weight_by, sum_over}
use Rattle.surface.specs.Surface.{Surface, surface, function_at, checked, evaluated}
use Rattle.surface.specs.Compute.{compute}

-- degree 1 and no knots
counts : ℕ → Counts
counts n = record { degree = 1; controls = n; periodic = false }

check : ℕ → ℕ → List Float → Checked
check m n cs = checked (surface (record { u = counts m; v = counts n; window = Whole }) [] [] cs [])

controls-and-no-weights : check 1 1 (0· ∷ 0· ∷ 0· ∷ []) ≡ Refusal 2
unfolding compute check counts
controls-and-no-weights = refl

nothing_lent : check 200000 0 [] ≡ Refusal 4
unfolding compute check counts
nothing_lent = refl

-- ---- two divisions of a weight

abbrev 3· : Float
3· = fin false 3 (pos 0)

abbrev 5· : Float
5· = fin false 5 (pos 0)

abbrev bits : ℕ → Float
bits n = of_bits binary64 n

abbrev at : Float → Float → Vector3
at x y = record { x = x; y = y; z = 0· }

-- Degrees 1 and 1, and three rows of two controls, whose weights are 3, 1 and 5. At (½, ½) the patch is the first two rows, with 3 for its largest.
abbrev knots-u : List Float
knots-u = 0· ∷ 0· ∷ 1· ∷ 2· ∷ 2· ∷ []

abbrev knots-v : List Float
knots-v = 0· ∷ 0· ∷ 1· ∷ 1· ∷ []

abbrev controls : List Float
controls = 0· ∷ 0· ∷ 0· ∷ 0· ∷ 1· ∷ 0· ∷ 1· ∷ 0· ∷ 0· ∷ 1· ∷ 1· ∷ 0· ∷ 2· ∷ 0· ∷ 0· ∷ 2· ∷ 1· ∷ 0· ∷ []

abbrev weights : List Float
weights = 3· ∷ 3· ∷ 1· ∷ 1· ∷ 5· ∷ 5· ∷ []

abbrev rows : Surface
rows = surface (record { u = counts 3; v = counts 2; window = Whole }) knots-u knots-v controls weights

-- the functions of both axes at ½
abbrev halves : List Three
halves = three ½· (neg 1·) 0· ∷ three ½· 1· 0· ∷ []

-- with each weight divided by m and then by k
abbrev divided : Float → Float → Evaluated
divided m k = rational (sum_over rows.shape 0 0 add_control controls (function_at halves) (function_at halves) (weight_by rows.shape 0 0 weights m k) empty_sums)

abbrev jet : Jet
jet = jet_of (at (fin false 1 (negsuc 1)) ½·) (at (bits 0x3fe7_ffff_ffff_ffff) (bits 0xbc97_ffff_ffff_ffff)) (at 0· 1·)

-- each is divided by 5, and then by the quotient of 3 and 5: the point is (¼, ½, 0)
two-divisions : evaluated rows ½· ½· ≡ Found jet
unfolding compute counts
two-divisions = refl

divided-twice : divided 5· (3· ⊘ 5·) ≡ Eval.Found jet
unfolding compute counts
divided-twice = refl

-- by the patch's largest alone (and by 1, which changes nothing): the point is one unit in the last place too low
by-patch-alone : divided 1· 3· ≡ Eval.Found (jet_of (at (bits 0x3fcf_ffff_ffff_ffff) (bits 0x3fdf_ffff_ffff_ffff)) jet.u (at 0· (bits 0x3fef_ffff_ffff_ffff)))
unfolding compute counts
by-patch-alone = refl

-- by the largest of all alone: one unit too high
by-all-alone : divided 5· 1· ≡ Eval.Found (jet_of (at (bits 0x3fd0_0000_0000_0001) (bits 0x3fe0_0000_0000_0001)) (at (bits 0x3fe8_0000_0000_0002) (bits 0x3cae_0000_0000_0001)) (at 0· (bits 0x3ff0_0000_0000_0001)))
unfolding compute counts
by-all-alone = refl
