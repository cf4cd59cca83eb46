-- What `more` says of each sum.
use Rattle.patch.specs.Patch.{add_control}
use Rattle.patch.proofs.add_control.Goals as goal

pub returns : goal.returns
unfolding add_control
returns c =
    let uv = c in
    let uu = uv in
    let v = uu in
    let u = v in
    let value = u in
    rw (
      value.more.ensures,
      u.more-2.ensures,
      v.more-3.ensures,
      uu.more-4.ensures,
      uv.more-5.ensures,
      c.more-6.ensures,
    )
