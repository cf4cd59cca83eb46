-- The loop's invariant: those before i are within, where all tells so.
use mathlib.Core.Path.{◌≡◌}
use native.Mathlib.Omega.{arith}
use lib.ListN.{length}
use Rattle.scaled.proofs.AcceptSteps.{told_more}
use borrow.Author.Rules.{rules}
use Rattle.scaled.proofs.accepting.all_within.Goals as goal

pub loop-i-init : goal.loop-i-init
loop-i-init c = (omega arith, search rules, λ t n l. absurd (omega arith))

pub loop-i-preserved : goal.loop-i-preserved
loop-i-preserved c =
    let at = c in
    let l = at.loop-i in
    (omega arith, omega arith, told_more at.args.controls.now l.i l.all l.invariant.2)

pub returns : goal.returns
returns c =
    let l = c.loop-i in
    let e : l.i ≡ length c.args.controls.now = omega arith in
    rw e at l.invariant.2
