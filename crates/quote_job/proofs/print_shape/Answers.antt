-- `quote_job::print_shape` meets its contract: the surface's numbers are decoded. Assumes nothing.
use mathlib.Core.Path.{ap}
use Prim.Native.Nat.{◌+◌, ◌*◌}
use native.Mathlib.Omega.{arith}
use Rattle.quote_job.specs.QuotePrintout.{quote_lines}
use Rattle.quote_job.proofs.Steps.{put_as, decoded}
use Rattle.quote_job.proofs.print_shape.Goals as goal

pub returns : goal.returns
returns c =
    let d = c in
    let k = d in
    let st = k in
    let n = k.knots.result + k.knots-2.result + 4 * k.controls.result in
    let p = put_as
    (ap quote_lines (decoded st.args.bytes.now n _ _ d.decode.ensures st.args.shape (omega (arith, k.knots.ensures.0, k.knots-2.ensures.0, k.controls.ensures.0))))
    c.print_decoded.ensures in
    record { put = p; upper_bound = omega (arith, p.inside) }
