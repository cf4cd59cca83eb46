-- `digits::put` meets its contract. The invariant: the whole text put is what is left of it put from here. Assumes nothing.
use native.Mathlib.Omega.{arith}
use Rattle.digits.proofs.Steps.{copy_begin, copy-go, copy-over}
use borrow.Author.Rules.{rules}
use Rattle.digits.proofs.put.Goals as goal

pub loop-i-init : goal.loop-i-init
loop-i-init c = (search rules, search rules, search rules, copy_begin _ _ _)

pub loop-i-preserved : goal.loop-i-preserved
loop-i-preserved c =
    let l = c.loop-i in
    let a = c.args in (
      search rules,
      search rules,
      search rules,
      copy-go a.at a.text.now a.out.now l.i l.out l.invariant.3 (omega arith) (omega arith),
    )

pub returns : goal.returns
returns c =
    let l = c.loop-i in
    let a = c.args in
    record {
      whole = copy-over a.at a.text.now a.out.now l.i l.out l.invariant.3 (omega arith);
      size = search rules;
      next-is = search rules;
      inside = search rules;
    }
