-- `quote_job::print_numbers` meets its contract: the parts lent are the surface's lists. Assumes nothing.
use mathlib.Core.Path.{sym, ap}
use Prim.Native.Nat.{◌+◌, ◌*◌}
use native.Mathlib.Omega.{arith}
use lib.Seq.{length-take-le}
use Rattle.quote_job.specs.QuotePrintout.{quote_lines}
use Rattle.quote_job.proofs.Steps.{put_as, parts_are}
use Rattle.quote_job.proofs.print_numbers.Goals as goal

pub slice_bounds-print_surface-end : goal.slice_bounds-print_surface-end
slice_bounds-print_surface-end c =
    let k = c in
    sym (length-take-le k.knots-ku_end.result k.args.numbers.now (omega arith))

pub returns : goal.returns
returns c =
    let q = c in
    let v = q in
    let st = v in
    let g = st.args in
    let n = v.controls-total in
    let a = v.knots-ku_end.result in
    let b = a + v.knots.result in
    let k = b + 3 * n.result in
    put_as
    (ap quote_lines (parts_are g.shape g.numbers.now a b k (k + n.result) v.knots-ku_end.ensures.0 (omega (arith, v.knots.ensures.0)) (omega (arith, n.ensures.0)) (omega (arith, n.ensures.0))))
    q.print_surface.ensures
