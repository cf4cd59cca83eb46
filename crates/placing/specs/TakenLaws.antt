-- The unit that a call takes is in its budget. Assumes nothing.
use Rattle.std.specs.Prelude.{Bool, true, false, cond, not, ◌||◌, ℕ, zero, suc, ◌≤◌, Float}
use Rattle.std.proofs.Common.{arith}
use Rattle.std.specs.Float.Ieee.{le}
use Rattle.float64.specs.Operators.{◌⊖◌, ◌⊗◌, 1e-24}
use Rattle.float64.specs.Functions.{is_finite}
use Rattle.vector3.specs.declared.Vector3.{Vector3}
use Rattle.patch.specs.declared.Evaluated.{Evaluated}
use Rattle.patch.specs.declared.Evaluated.TheVariants as Patch
use Rattle.surface.specs.declared.Checked.{Checked}
use Rattle.surface.specs.declared.Checked.TheVariants as Check
use Rattle.surface.specs.Surface.{Surface, checked}
use Rattle.inverter.specs.declared.Components.{Components}
use Rattle.inverter.specs.declared.Components.TheVariants.{Along, Refusal}
use Rattle.inverter.specs.declared.plane.Frame.{Frame}
use Rattle.inverter.specs.Inverter.{on_checked, charged, taken_of}
use Rattle.inverter.specs.Plane.{sound_plane, local_of, placed_on}
use Rattle.inverter.specs.Preimage.{resolved, moved, moved_from, derived}

on-checked-taken : (budget : ℕ) (c : Checked) (f : Float → Components) → ((m : Float) → taken_of (f m) ≤ budget) → taken_of (on_checked (λ n. Refusal n 0) c f) ≤ budget
unfolding on_checked
on-checked-taken budget (Check.Refusal n) f h = omega arith
on-checked-taken budget (Check.Scale m) f h = h m

charged-taken : (sound : Bool) (budget : ℕ) (c : Components) → taken_of c ≤ 1 → taken_of (charged sound budget c) ≤ budget
unfolding charged
charged-taken false budget c h = omega arith
charged-taken true zero c h = omega arith
charged-taken true (suc k) c h = omega arith

either-taken : (singular : Bool) (x y : Float) → taken_of (cond singular (Refusal 10 1) (Along x y)) ≤ 1
either-taken true x y = omega arith
either-taken false x y = omega arith

resolved-taken : (a b c r0 r1 : Float) → taken_of (resolved a b c r0 r1) ≤ 1
unfolding resolved
resolved-taken a b c r0 r1 = let det = a ⊗ c ⊖ b ⊗ b in either-taken (not (is_finite det) || le det (1e-24 ⊗ a ⊗ c)) _ _

moved-taken : (d : Vector3) (e : Evaluated) → taken_of (moved_from d e) ≤ 1
unfolding moved_from moved
moved-taken d Patch.Refused = omega arith
moved-taken d (Patch.Found j) = resolved-taken _ _ _ _ _

pub derived-taken : (budget : ℕ) (s : Surface) (u v : Float) (d : Vector3) → taken_of (derived s u v d budget) ≤ budget
unfolding derived
derived-taken budget s u v d = on-checked-taken budget (checked s) _ (λ m. charged-taken _ budget _ (moved-taken d _))

pub placed-on-taken : (budget : ℕ) (f : Frame) (mark : Vector3) → taken_of (placed_on f mark budget) ≤ budget
unfolding placed_on local_of
placed-on-taken budget f mark = charged-taken (sound_plane f mark) budget _ (omega arith)
