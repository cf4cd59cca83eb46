-- Each turn writes a value and a first derivative of the last degree, and carries the terms of the column after it.
use Prim.Native.Nat.{◌^◌}
use native.Mathlib.Omega.{arith}
use lib.Dec.{le→leb}
use lib.Ieee.{in_float, of_int}
use Rattle.float64.specs.Operators.{of_nat}
use Rattle.basis.proofs.Zeros.{itself}
use Rattle.basis.proofs.Parts.{begin, firsts-begin, skip_first, go, firsts-go, carried, last, firsts-last}
use Rattle.basis.proofs.values.raise_both.Goals as goal

pub int_to_float-n : goal.int_to_float-n
unfolding in_float
int_to_float-n c = le→leb c.args.p (2 ^ 53) (omega arith)

pub loop-j-init : goal.loop-j-init
loop-j-init c =
    let at = c in (
      omega arith,
      begin _ _ _ _ at.requires.1 _ _ (omega arith) (omega arith) _ _ (omega arith) at.requires.4,
      firsts-begin _ _ _ _ _ at.requires.5,
      skip_first _ _ _ _ at.requires.1 _ _ (omega arith) (omega arith) _ _ _ (omega arith) at.requires.4 c.absent-a.ensures,
    )

pub loop-j-preserved : goal.loop-j-preserved
unfolding of_int of_nat
loop-j-preserved c =
    let at = c in
    let start = at in
    let b = c.term_at-b.ensures in (
      omega arith,
      go _ _ _ _ start.requires.1 _ _ (omega arith) (omega arith) start.requires.3 _ _ _ _ _ at.loop-j.invariant.1 (omega arith) (omega arith) at.loop-j.invariant.3 (itself b) c.mix-e.ensures,
      firsts-go _ _ _ _ start.requires.1 _ _ (omega arith) (omega arith) start.requires.3 _ _ _ _ _ at.loop-j.invariant.1 (omega arith) (omega arith) at.loop-j.invariant.3 (itself b) c.mix-e.ensures _ _ at.loop-j.invariant.2,
      carried _ _ start.args.p _ _ _ at.loop-j.values c.mix-e.result.value _ b,
    )

pub returns : goal.returns
returns c =
    let at = c in
    let start = at in record { row = last _ _ _ _ start.requires.1 _ _ (omega arith) (omega arith) start.requires.3 _ (omega arith) _ _ _ _ at.loop-j.invariant.1 at.loop-j.invariant.3 c.absent.ensures c.mix-last.ensures; by_index = firsts-last _ _ _ _ start.requires.1 _ _ (omega arith) (omega arith) start.requires.3 _ (omega arith) _ _ _ _ at.loop-j.invariant.1 at.loop-j.invariant.3 c.absent.ensures c.mix-last.ensures _ _ at.loop-j.invariant.2 }
