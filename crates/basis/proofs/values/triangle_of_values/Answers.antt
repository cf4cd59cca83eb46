-- Each turn raises the values by a degree.
use mathlib.Core.Path.{◌≡◌}
use native.Mathlib.Omega.{arith}
use Rattle.basis.proofs.Parts.{begin-row}
use Rattle.basis.proofs.values.triangle_of_values.Goals as goal

pub loop-d-init : goal.loop-d-init
loop-d-init c = (omega arith, begin-row _ _ _ _ _ c.requires.0 c.requires.4)

pub raise_values-requires : goal.raise_values-requires
raise_values-requires c =
    let at = c in
    (omega arith, omega arith, omega arith, at.requires.3, at.loop-d.invariant.1)

pub returns : goal.returns
returns c =
    let at = c in
    let e : at.loop-d.d ≡ at.args.to = omega arith in
    rw e at at.loop-d.invariant.1
