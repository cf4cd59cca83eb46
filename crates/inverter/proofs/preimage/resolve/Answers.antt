-- The definition's own tests.
use mathlib.Core.Path.{◌≡◌}
use mathlib.Core.Bool.{Bool, true, false}
use lib.Ieee.{Float, le}
use Rattle.float64.specs.Operators.{◌⊖◌, ◌⊗◌, ◌⊘◌, 1e-24}
use Rattle.float64.specs.Functions.{is_finite}
use Rattle.inverter.specs.declared.Components.TheVariants.{Along}
use Rattle.inverter.specs.Preimage.{resolved}
use Rattle.inverter.proofs.preimage.resolve.Goals as goal
use Rattle.inverter.proofs.preimage.resolve.Goals.{then-not-is_finite-via-then-not-is_finite, then-not-is_finite-via-else-not-is_finite+then-det-a}

regular : (a b c r0 r1 : Float) {f : Bool} → f ≡ is_finite (a ⊗ c ⊖ b ⊗ b) → f ≡ true → le (a ⊗ c ⊖ b ⊗ b) (1e-24 ⊗ a ⊗ c) ≡ false
    → Along ((c ⊗ r0 ⊖ b ⊗ r1) ⊘ (a ⊗ c ⊖ b ⊗ b)) ((a ⊗ r1 ⊖ b ⊗ r0) ⊘ (a ⊗ c ⊖ b ⊗ b)) ≡ resolved a b c r0 r1
unfolding resolved
regular a b c r0 r1 p s t = simp (← p, s, t)

pub returns-then-not-is_finite : goal.returns-then-not-is_finite
unfolding resolved
returns-then-not-is_finite c =
    let finite = c.is_finite.ensures in
    elim c.then-not-is_finite.branch [
      | then-not-is_finite-via-then-not-is_finite w ↦ simp (← finite, w.if-not-is_finite.true)
      | then-not-is_finite-via-else-not-is_finite+then-det-a w ↦ simp (← finite, w.if-not-is_finite.false, w.if-det-a.true)
    ]

pub returns : goal.returns
returns c = regular _ _ _ _ _ c.is_finite.ensures c.if-not-is_finite.false c.if-det-a.false
