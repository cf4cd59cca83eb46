-- Each turn raises the rows by a degree; a column that is none stays so to the last.
use mathlib.Core.Path.{ap}
use mathlib.Core.Bool.{not}
use native.Mathlib.Omega.{arith}
use Rattle.basis.proofs.Gathered.{begin, go, stop, over}
use Rattle.basis.proofs.triangle.Goals as goal

pub loop-d-init : goal.loop-d-init
loop-d-init c = (omega arith, begin _ _ _ _ c.requires.0 _ c.requires.2)

pub raise-requires : goal.raise-requires
raise-requires c = (omega arith, omega arith, omega arith, c.loop-d.invariant.1)

pub returns-then-not-raise : goal.returns-then-not-raise
returns-then-not-raise c =
    let raised = c in
    let at = raised in
    stop _ _ _ _ at.requires.0 at.loop-d.d (omega arith) raised.raise.result _ raised.raise.ensures (ap not c.if-not-raise.true)

pub loop-d-preserved : goal.loop-d-preserved
loop-d-preserved c =
    let raised = c in
    let at = raised in
    (omega arith, go _ _ _ _ at.requires.0 at.loop-d.d (omega arith) raised.raise.result _ raised.raise.ensures (ap not c.if-not-raise.false))

pub returns : goal.returns
returns c =
    let at = c in
    over _ _ _ _ at.requires.0 at.loop-d.d (omega arith) at.loop-d.rows at.loop-d.invariant.1
