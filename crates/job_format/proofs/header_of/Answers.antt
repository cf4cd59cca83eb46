-- `job_format::header_of` meets its contract: each number stands at its place. Assumes nothing.
use Rattle.job_format.proofs.Pieces.{counts-at}
use Rattle.job_format.proofs.Steps.{shape-small}
use Rattle.job_format.proofs.header_of.Goals as goal

pub returns : goal.returns
returns c =
    let nv = c in
    let nu = nv in
    let dv = nu in
    let du = dv in
    let flags = du in
    let st = flags in
    let small = shape-small du.wide.ensures.1 dv.wide-2.ensures.1 nu.pair_at.ensures.1 nv.pair_at-2.ensures.1 flags.wide-flags.result in (
      rw (c.shape_of-shape.ensures, flags.wide-flags.ensures.0, du.wide.ensures.0, dv.wide-2.ensures.0, nu.pair_at.ensures.0, nv.pair_at-2.ensures.0) (counts-at st.args.bytes.now st.requires.0 st.requires.1),
      rw c.shape_of-shape.ensures small.0,
      rw c.shape_of-shape.ensures small.1,
    )
