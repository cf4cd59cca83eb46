-- `job_format::all_marks` meets its contract. The invariant: what a test of the records from number i on says of them, it says of all. Assumes nothing.
use mathlib.Core.Bool.{true, false}
use native.Mathlib.Omega.{arith}
use Rattle.job_format.proofs.Steps.{marks_begin, marks-over, marks-stop, marks-go}
use borrow.Author.Rules.{rules}
use Rattle.job_format.proofs.all_marks.Goals as goal

pub loop-i-init : goal.loop-i-init
loop-i-init c = (search rules, marks_begin _ _ _)

pub returns-then-not-is_mark : goal.returns-then-not-is_mark
returns-then-not-is_mark c =
    let to = c in
    let a = to.args in
    let l = to.loop-i in
    l.invariant.1 false (marks-stop a.bytes.now a.at a.marks l.i (omega arith) (omega arith) c.is_mark.result c.is_mark.ensures c.if-not-is_mark.true)

pub loop-i-preserved : goal.loop-i-preserved
loop-i-preserved c =
    let to = c in
    let a = to.args in
    let l = to.loop-i in (
      search rules,
      λ r e. l.invariant.1 r (marks-go a.bytes.now a.at a.marks l.i (omega arith) (omega arith) c.is_mark.result c.is_mark.ensures c.if-not-is_mark.false r e),
    )

pub returns : goal.returns
returns c =
    let l = c.loop-i in
    let a = c.args in
    l.invariant.1 true (marks-over a.bytes.now a.at a.marks l.i (omega arith))
