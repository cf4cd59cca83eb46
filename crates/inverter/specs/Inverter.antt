-- What the call that places a mark answers, for all input, and what a call of one unit does. Definitions only.
use Rattle.std.specs.Prelude.{ℕ, zero, suc, ◌-◌, Bool, true, false, Float}
use Rattle.vector3.specs.declared.Vector3.{Vector3}
use Rattle.surface.specs.declared.Checked.{Checked}
use Rattle.surface.specs.declared.Checked.TheVariants as Check
use Rattle.surface.specs.Surface.{Surface, checked}
use Rattle.chart.specs.declared.Terms.{Terms}
use Rattle.chart.specs.declared.Placing.{Placing}
use Rattle.chart.specs.Chart.{sound_search, placed_by}
use Rattle.inverter.specs.declared.Components.{Components}
use Rattle.inverter.specs.declared.Components.TheVariants.{Along, Refusal}

-- a refused surface's number, or what comes of its largest weight
unfoldable pub on_checked : {A : Type 0} → (ℕ → A) → Checked → (Float → A) → A
on_checked refuse (Check.Refusal n) f = refuse n
on_checked refuse (Check.Scale m) f = f m

unfoldable pub placed : Surface → Vector3 → Terms → ℕ → Placing
placed s mark terms budget = on_checked (λ n. Placing.Refusal n 0) (checked s) (λ m. placed_by s m mark terms budget (sound_search mark terms))

-- ---- a call of one unit, charged after check 7

unfoldable pub charged : Bool → ℕ → Components → Components
charged false budget c = Refusal 7 0
charged true zero c = Refusal 8 0
charged true (suc k) c = c

abbrev pub taken_of : Components → ℕ
taken_of (Along a b) = 1
taken_of (Refusal number n) = n

-- 01's values of its answer: its number, 0 where there is none, and the budget left

unfoldable pub number_of : Components → ℕ
number_of (Along a b) = 0
number_of (Refusal number n) = number

unfoldable pub left_of : ℕ → Components → ℕ
left_of budget c = budget - taken_of c
