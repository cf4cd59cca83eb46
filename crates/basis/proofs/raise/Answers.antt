-- Each turn writes a column of the next degree, and carries the terms of the column after it.
use mathlib.Core.Path.{sym, ◌∙◌}
use Prim.Native.Nat.{◌+◌, ◌^◌}
use native.Mathlib.Omega.{arith}
use lib.Dec.{le→leb}
use lib.Ieee.{in_float, of_int}
use Rattle.float64.specs.Operators.{of_nat}
use Rattle.basis.proofs.Rows.{begin, go, carried, stop, over}
use Rattle.basis.proofs.raise.Goals as goal

pub int_to_float-n : goal.int_to_float-n
unfolding in_float
int_to_float-n c = le→leb (c.args.d + 1) (2 ^ 53) (omega arith)

pub loop-j-init : goal.loop-j-init
unfolding of_int of_nat
loop-j-init c =
    let at = c in
    (omega arith, omega arith, begin _ _ _ _ _ at.requires.0 at.requires.1 _ at.requires.3, c.term_at-a.ensures)

pub returns-then-not-sound : goal.returns-then-not-sound
unfolding of_int of_nat
returns-then-not-sound c =
    let mixed = c in
    let at = mixed in
    let start = at in
    stop _ _ _ _ _ start.requires.0 start.requires.1 _ _ _ _ _ at.loop-j.invariant.2 (omega arith) (omega arith) at.loop-j.invariant.3 mixed.term_at-b.ensures mixed.mix-e.ensures
    (sym c.sound.ensures ∙ c.if-not-sound.true)

pub loop-j-preserved : goal.loop-j-preserved
unfolding of_int of_nat
loop-j-preserved c =
    let mixed = c in
    let at = mixed in
    let start = at in
    let b = mixed.term_at-b.ensures in (
      omega arith,
      omega arith,
      go _ _ _ _ _ start.requires.0 start.requires.1 _ _ _ _ _ at.loop-j.invariant.2 (omega arith) (omega arith) at.loop-j.invariant.3 b mixed.mix-e.ensures (sym c.sound.ensures ∙ c.if-not-sound.false),
      carried _ _ _ _ _ start.requires.0 start.requires.1 _ _ _ _ _ at.loop-j.invariant.2 (omega arith) (omega arith) at.loop-j.invariant.3 b mixed.mix-e.ensures,
    )

pub returns : goal.returns
returns c =
    let at = c in
    let start = at in
    over _ _ _ _ _ start.requires.0 start.requires.1 _ _ (omega arith) at.loop-j.invariant.2
