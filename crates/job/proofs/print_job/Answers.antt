-- `job::print_job` meets its contract: the surface's numbers are decoded. Assumes nothing.
use Prim.Native.Nat.{◌+◌, ◌*◌}
use native.Mathlib.Omega.{arith}
use Rattle.job_format.specs.Offsets.{count}
use Rattle.job.proofs.Numbers.{decoded}
use borrow.Author.Rules.{rules}
use Rattle.job.proofs.print_job.Goals as goal

pub print_decoded-requires : goal.print_decoded-requires
print_decoded-requires c =
    let d = c in
    let k = d in
    let st = k in
    (st.requires, decoded st.args.bytes.now (k.knots.result + k.knots-2.result + 4 * k.controls.result) (count st.args.shape) _ _ d.decode.ensures (omega (arith, k.knots.ensures.0, k.knots-2.ensures.0, k.controls.ensures.0)), search rules)
