-- What is found by values and first derivatives alone. Assumes nothing.
use mathlib.Core.Path.{◌≡◌, sym}
use mathlib.Core.Bool.{true, false, not, ◌&&◌, and-eq-true_iff}
use mathlib.Core.List.{List}
use lib.Ieee.{Float, le}
use borrow.Author.Tests.{not-false}
use Rattle.basis.specs.declared.Place.{Place}
use Rattle.basis.specs.Parts.{value_of, first_of, part_of, shown_part}
use Rattle.patch.specs.declared.Sum.{Sum}
use Rattle.patch.specs.declared.Jet.{Jet}
use Rattle.patch.specs.declared.Evaluated.TheVariants.{Found}
use Rattle.patch.specs.Patch.{jet_of_sums}
use Rattle.surface.specs.Surface.{Surface, sample_u, sample_v, evaluate_by}
use Rattle.net.specs.Net.{Patch, WeighedNet, sum_by}
use Rattle.scaled.specs.declared.Accepted.{Accepted}
use Rattle.scaled.specs.Accepted.{Accepts, not-refused, largest-is}
use Rattle.scaled.specs.Magnitude.{least_weight}
use Rattle.scaled.specs.PartLaws.{patch-of, jet-found}

module _ (s : Surface) {a : Accepted} (ok : Accepts s a) (x y : Float) (p q : Place) (us vs : List Float) (found : (p.found && q.found) ≡ true)
    (eu : shown_part s.shape.u.degree p us ≡ part_of value_of (sample_u s x)) (ev : shown_part s.shape.v.degree q vs ≡ part_of value_of (sample_v s y)) where
  each : (p.found ≡ true) × (q.found ≡ true)
  each = (and-eq-true_iff p.found q.found).0 found

  pub patch-there : Patch s.shape p.start q.start
  patch-there = patch-of s (not-refused ok) x y p q us vs each.0 each.1 eu ev

  pub quick : a.bounded ≡ true → (net : List Float) → WeighedNet s.shape s.weights a.largest p.start q.start net → (fs gs : List Float)
      → shown_part s.shape.u.degree p fs ≡ part_of first_of (sample_u s x) → shown_part s.shape.v.degree q gs ≡ part_of first_of (sample_v s y)
      → {value u v : Sum} → value ≡ sum_by s.shape s.controls p.start q.start net us vs → u ≡ sum_by s.shape s.controls p.start q.start net fs vs → v ≡ sum_by s.shape s.controls p.start q.start net us gs
      → not (le least_weight value.w) ≡ false → {j : Jet} → j ≡ jet_of_sums value u v → Found j ≡ evaluate_by s a.largest x y
  quick b net w fs gs ef eg {value} hv hu hw heavy hj =
      rw (hj, largest-is ok, hu, hw, hv)
      (sym (jet-found s (not-refused ok) x y p q us vs each.0 each.1 eu ev (ok.bounded b) net (rw (largest-is ok) at w) (rw hv at (not-false (le least_weight value.w) heavy)) fs gs ef eg))
