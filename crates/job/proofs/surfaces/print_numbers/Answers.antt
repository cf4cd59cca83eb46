-- `job::surfaces::print_numbers` meets its contract: the parts lent are the surface's lists. Assumes nothing.
use mathlib.Core.Path.{sym}
use Prim.Native.Nat.{◌+◌, ◌*◌}
use native.Mathlib.Omega.{arith}
use lib.Seq.{length-take-le}
use Rattle.digits.specs.TextLaws.{put_then}
use Rattle.job.proofs.Steps.{put_as}
use Rattle.job.proofs.Numbers.{job_is, queue-fits}
use Rattle.job.proofs.surfaces.print_numbers.Goals as goal

pub slice_bounds-print_row-end : goal.slice_bounds-print_row-end
slice_bounds-print_row-end c =
    let k = c in
    sym (length-take-le k.knots-ku_end.result k.args.numbers.now (omega arith))

pub print_row-requires : goal.print_row-requires
print_row-requires c =
    let m = c in
    let w = m in
    let z = w in
    let v = z in
    let st = v in
    let n = v.controls-total.ensures.0 in
    let f = st.requires.0 in
    queue-fits _ _ _ _ _ _ _ w.queue_at-queue.ensures
    (omega (arith, f.whole, v.knots-ku_end.ensures.0, v.knots.ensures.0, n, z.size_of.ensures.0))
    (omega (arith, f.few, f.whole, m.put_marks-from.ensures.upper_bound, m.put_marks-from.ensures.put.size, st.requires.3))

pub returns : goal.returns
returns c =
    let q = c in
    let m = q in
    let w = m in
    let z = w in
    let v = z in
    let st = v in
    let g = st.args in
    let n = v.controls-total in
    let a = v.knots-ku_end.result in
    let b = a + v.knots.result in
    let k = b + 3 * n.result in
    let p = put_as
    (job_is g.bytes.now g.shape g.numbers.now st.requires.2 g.marks a b k (k + n.result) z.size_of.result v.knots-ku_end.ensures.0 (omega (arith, v.knots.ensures.0)) (omega (arith, n.ensures.0)) (omega (arith, n.ensures.0)) z.size_of.ensures.0 w.queue_at-queue.result w.queue_at-queue.ensures)
    (put_then m.put_marks-from.ensures.put q.print_row.ensures) in
    record { put = p; upper_bound = omega (arith, p.inside, st.requires.3) }
