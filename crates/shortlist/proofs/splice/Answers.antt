-- The loop's invariant: the whole is what is carried put in at k.
use mathlib.Core.Path.{refl}
use native.Mathlib.Omega.{arith}
use lib.ListN.{length-set}
use borrow.Author.Rules.{rules}
use Rattle.shortlist.proofs.Places.{carry-goes, carry-room, carry-full}
use Rattle.shortlist.proofs.splice.Goals as goal

pub loop-k-init : goal.loop-k-init
loop-k-init c = (omega arith, omega arith, search rules, refl)

pub loop-k-preserved : goal.loop-k-preserved
loop-k-preserved c =
    let at = c in
    (omega arith, omega arith, simp length-set at.loop-k.invariant.2, carry-goes _ _ at.args.count at.loop-k.k _ at.loop-k.invariant.3 at.loop-k.invariant.2 _ (omega arith) (omega arith))

pub returns-then-count-lt6 : goal.returns-then-count-lt6
returns-then-count-lt6 c =
    let at = c in
    (carry-room _ _ at.args.count at.loop-k.k _ at.loop-k.invariant.3 at.loop-k.invariant.2 (omega arith) (omega arith), omega arith)

pub returns : goal.returns
returns c =
    let at = c in
    (carry-full _ _ at.args.count at.loop-k.k _ at.loop-k.invariant.3 at.loop-k.invariant.2 (omega arith) (omega arith), omega arith)
