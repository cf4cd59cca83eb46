-- Each turn writes a value of the next degree, and carries the terms of the column after it.
use Prim.Native.Nat.{◌+◌, ◌^◌}
use native.Mathlib.Numerals.{add-one}
use native.Mathlib.Omega.{arith}
use lib.Dec.{le→leb}
use lib.Ieee.{in_float, of_int}
use Rattle.float64.specs.Operators.{of_nat}
use Rattle.basis.proofs.Zeros.{itself}
use Rattle.basis.proofs.Parts.{begin, skip_first, go, carried, last}
use Rattle.basis.proofs.values.raise_values.Goals as goal

pub int_to_float-n : goal.int_to_float-n
unfolding in_float
int_to_float-n c = le→leb (c.args.d + 1) (2 ^ 53) (omega arith)

pub loop-j-init : goal.loop-j-init
loop-j-init c =
    let at = c in (
      omega arith,
      omega arith,
      begin _ _ _ _ at.requires.0 _ _ (add-one _) (omega arith) _ _ (omega arith) at.requires.4,
      skip_first _ _ _ _ at.requires.0 _ _ (add-one _) (omega arith) _ _ _ (omega arith) at.requires.4 c.absent-a.ensures,
    )

pub loop-j-preserved : goal.loop-j-preserved
unfolding of_int of_nat
loop-j-preserved c =
    let at = c in
    let start = at in
    let b = c.term_at-b.ensures in (
      omega arith,
      omega arith,
      go _ _ _ _ start.requires.0 _ _ (add-one _) (omega arith) start.requires.3 _ _ _ _ _ at.loop-j.invariant.2 (omega arith) (omega arith) at.loop-j.invariant.3 (itself b) c.mix-e.ensures,
      carried _ _ start.args.p _ _ _ at.loop-j.values c.mix-e.result.value _ b,
    )

pub returns : goal.returns
returns c =
    let at = c in
    let start = at in
    last _ _ _ _ start.requires.0 _ _ (add-one _) (omega arith) start.requires.3 _ (omega arith) _ _ _ _ at.loop-j.invariant.2 at.loop-j.invariant.3 c.absent.ensures c.mix-last.ensures
