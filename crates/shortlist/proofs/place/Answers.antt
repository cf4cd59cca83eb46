-- The loop's invariant: the place is i and the place in what is left from i on.
use mathlib.Core.Path.{◌≡◌}
use native.Mathlib.Omega.{arith}
use native.Mathlib.Nat.{zero-add}
use lib.ListN.{length}
use borrow.Author.Rules.{rules}
use Rattle.shortlist.proofs.Places.{place-goes, place-stops, place-ends}
use Rattle.shortlist.proofs.place.Goals as goal

pub loop-i-init : goal.loop-i-init
loop-i-init c =
    let n : length c.args.at ≡ 6 = search rules in
    (omega arith, omega arith, simp zero-add)

pub returns-then-d-y : goal.returns-then-d-y
returns-then-d-y c =
    let at = c in
    place-stops _ _ _ _ at.loop-i.i at.loop-i.invariant.1 at.loop-i.invariant.2 c.if-d-y.true (omega arith)

pub loop-i-preserved : goal.loop-i-preserved
loop-i-preserved c =
    let at = c in
    (omega arith, at.loop-i.invariant.1, place-goes _ _ _ _ at.loop-i.i at.loop-i.invariant.1 at.loop-i.invariant.2 c.if-d-y.false (omega arith))

pub returns : goal.returns
returns c =
    let at = c in
    place-ends _ _ _ _ at.loop-i.i at.loop-i.invariant.1 at.loop-i.invariant.2 (omega arith)
