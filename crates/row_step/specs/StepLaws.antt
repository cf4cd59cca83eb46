-- What holds of one mark of a row. Assumes nothing.
use Rattle.std.specs.Prelude.{◌≡◌, false, ℕ, ◌≤◌, Float}
use Rattle.std.proofs.Common.{arith}
use Rattle.std.specs.Float.Ieee.{le, is_nan}
use Rattle.vector3.specs.declared.Vector3.{Vector3}
use Rattle.patch.specs.declared.Jet.{Jet}
use Rattle.patch.specs.declared.Evaluated.TheVariants as Eval
use Rattle.patch.specs.Patch.{from_mark}
use Rattle.surface.specs.declared.Evaluation.TheVariants.{Found}
use Rattle.surface.specs.Surface.{Surface, scale_of, refusal_of_surface, evaluate_by, evaluated, window_of}
use Rattle.surface.specs.NumberLaws.{evaluate-found}
use Rattle.surface.specs.SurfaceLaws.{checked-scale}
use Rattle.window.specs.Values.{values_u, values_v}
use Rattle.newton.specs.declared.Iterate.{Iterate}
use Rattle.newton.specs.RunLaws.{Reached}
use Rattle.inversion.specs.declared.Hint.{Hint}
use Rattle.inversion.specs.declared.Hint.TheVariants.{Nothing, At}
use Rattle.inversion.specs.Inversion.{within, inversion_by}
use Rattle.inversion.proofs.InversionLaws.{pair_held}
use Rattle.inversion.proofs.SurfaceLaws.{pair-number}
use Rattle.chart.specs.declared.Period.TheVariants.{Free}
use Rattle.chart.specs.declared.Terms.{Terms}
use Rattle.chart.specs.declared.Placing.{Placing}
use Rattle.chart.specs.Chart.{shifted, turned_to}
use Rattle.inverter.specs.Inverter.{placed}
use Rattle.inverter.specs.PlacingLaws.{Numbered, placed-sound, placed-by-cases}
use Rattle.inverter.specs.PairLaws.{same-distance}
use Rattle.row_step.specs.declared.Progress.{Progress}
use Rattle.row_step.specs.declared.Stepped.{Stepped}
use Rattle.row_step.specs.declared.Stepped.TheVariants.{Placed, Refusal}
use Rattle.row_step.specs.Step.{led_by, step_by, stepped}

-- ---- it leaves no more than there was

abbrev pub Leaves : ℕ → Stepped → Type 0
Leaves budget (Placed c p) = p.left ≤ budget
Leaves budget (Refusal number left) = (1 ≤ number) × (left ≤ budget)

by-leaves : (p : Progress) (g : Placing) → Numbered g → Leaves p.left (step_by p g)
unfolding step_by
by-leaves p (Placing.Pair c t) h = omega arith
by-leaves p (Placing.Refusal number t) h = (h, omega arith)

pub step-leaves : (s : Surface) (mark : Vector3) (p : Progress) → Leaves p.left (stepped s mark p)
unfolding stepped
step-leaves s mark p = by-leaves p (placed s mark p.terms p.left) (placed-sound s mark p.terms p.left).1

-- ---- without periods no pair holds a NaN, so its bits can be printed

abbrev pub Unshifted : Terms → Type 0
Unshifted t = (t.u ≡ Free) × (t.v ≡ Free)

abbrev pub Numbers : Iterate → Type 0
Numbers p = (is_nan p.u ≡ false) × (is_nan p.v ≡ false)

turned-numbers : (h : Hint) (p : Iterate) → Numbers p → Numbers (turned_to h Free Free p)
unfolding turned_to shifted
turned-numbers Nothing p k = k
turned-numbers (At u v) p k = k

-- a step's pair, where there is one, and the terms that it hands on
abbrev pub Prints : Stepped → Type 0
Prints (Placed c p) = Numbers c.end.at × Unshifted p.terms
Prints (Refusal number left) = Unit {0}

module _ (s : Surface) (mark : Vector3) (p : Progress) (free : Unshifted p.terms) where
  abbrev Steps : Placing → Type 0
  Steps g = Prints (step_by p g)

  pub step-prints : Prints (stepped s mark p)
  unfolding stepped step_by led_by
  step-prints =
      placed-by-cases Steps s mark p.terms p.left
      (record {
        unfit = λ n h. tt;
        seven = tt;
        eight = tt;
        nine = λ n l. tt;
        pair = λ m k c n l w.
            (rw (free.0, free.1) (turned-numbers p.terms.hint c.end.at (rw w at (pair-number s m (checked-scale s m k).0 mark p.terms.hint p.terms.tolerance))), free);
      })

-- ---- a mark that is off the shell is lost

-- no point that `surface::evaluate` answers lies within the tolerance of the mark
abbrev pub OffShell : Surface → Vector3 → Float → Type 0
OffShell s mark tolerance = (u v : Float) (j : Jet) → evaluated s u v ≡ Found j → le (from_mark mark j) tolerance ≡ false

abbrev pub Lost : Float → Placing → Type 0
Lost tolerance (Placing.Pair c n) = within c.end tolerance ≡ false
Lost tolerance (Placing.Refusal number n) = Unit {0}

module _ (s : Surface) (mark : Vector3) (terms : Terms) (off : OffShell s mark terms.tolerance) where
  reached-far : (m : Float) → (refusal_of_surface s ≡ 0) × (m ≡ scale_of s) → (p : Iterate) → Reached (window_of s) mark (evaluate_by s m) p → le p.distance terms.tolerance ≡ false
  reached-far m e p r =
      let f : evaluate_by s (scale_of s) p.u p.v ≡ Eval.Found r.jet = rw (← e.1) r.found in
      rw r.distance (off p.u p.v r.jet ((evaluate-found s p.u p.v r.jet).1 (e.0, f)))

  pub off-shell-lost : (budget : ℕ) → Lost terms.tolerance (placed s mark terms budget)
  unfolding inversion_by
  off-shell-lost budget =
      placed-by-cases (Lost terms.tolerance) s mark terms budget
      (record {
        unfit = λ n h. tt;
        seven = tt;
        eight = tt;
        nine = λ n l. tt;
        pair = λ m k c n l w.
            let r = rw w at (pair_held (window_of s) mark (evaluate_by s m) (values_u s) (values_v s) terms.hint terms.tolerance) in
            rw (same-distance terms.hint terms.u terms.v c.end.at) (reached-far m (checked-scale s m k) c.end.at r);
      })
