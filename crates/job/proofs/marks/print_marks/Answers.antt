-- `job::marks::print_marks` meets its contract. The invariant: whatever puts the lines from mark number i on puts all. Assumes nothing.
use mathlib.Core.Path.{refl, sym, ◌∙◌}
use native.Mathlib.Omega.{arith}
use Rattle.job.proofs.Steps.{printable, put_as, rest_goes, rest-stops, rest_over, lines-begin, lines-over, lines-placed, lines-refused}
use Rattle.job.proofs.marks.print_marks.Goals as goal

pub loop-i-init : goal.loop-i-init
loop-i-init c =
    let st = c in
    let a = st.args in
    (omega arith, omega arith, refl, st.requires.1, λ after end p. put_as (sym (lines-begin _ a.bytes.now a.queue.first a.queue.count a.queue.progress)) p)

pub step-stepped-requires : goal.step-stepped-requires
step-stepped-requires c = c.requires.0

pub put_step-at-requires : goal.put_step-at-requires
put_step-at-requires c =
    let p = c in
    (omega arith, printable _ _ _ p.loop-i.invariant.3 _ p.step-stepped.ensures)

pub shape_of-out-in_default : goal.shape_of-out-in_default
shape_of-out-in_default c =
    let q = c in
    q.put_step-at.ensures.put.size ∙ q.loop-i.invariant.2

pub returns-in_default : goal.returns-in_default
returns-in_default c =
    let q = c in
    let p = q in
    let m = p in
    let to = m in
    let l = to.loop-i in
    let a = to.args in
    rest-stops l.invariant.4 _ _ _
    (lines-refused _ a.bytes.now a.queue.first a.queue.count l.i l.progress m.loop-i-test.true _ m.mark_at-mark.ensures _ p.step-stepped.ensures _ _ c.in_default.is)
    q.put_step-at.ensures.put

pub overflow_step-i : goal.overflow_step-i
overflow_step-i c = record { fits = omega (arith, c) }

pub loop-i-preserved : goal.loop-i-preserved
loop-i-preserved c =
    let q = c in
    let p = q in
    let m = p in
    let to = m in
    let l = to.loop-i in
    let a = to.args in
    let placed = c.in-Placed.is in (
      omega arith,
      omega (arith, q.put_step-at.ensures.upper_bound, q.put_step-at.ensures.put.size, l.invariant.1),
      q.put_step-at.ensures.put.size ∙ l.invariant.2,
      (rw placed at (printable _ _ _ l.invariant.3 _ p.step-stepped.ensures)).1,
      rest_goes l.invariant.4 _ _ _ _
          (lines-placed _ a.bytes.now a.queue.first a.queue.count l.i l.progress m.loop-i-test.true _ m.mark_at-mark.ensures _ p.step-stepped.ensures _ _ placed)
          q.put_step-at.ensures.put,
    )

pub shape_of-out : goal.shape_of-out
shape_of-out c = c.loop-i.invariant.2

pub returns : goal.returns
returns c =
    let l = c.loop-i in
    let a = c.args in
    rest_over l.invariant.4 (omega arith) (lines-over _ a.bytes.now a.queue.first a.queue.count l.i l.progress c.loop-i-test.false)
