-- What `finite_sum` says of each sum.
use Rattle.patch.specs.Patch.{finite_sums}
use Rattle.patch.proofs.finite_sums.Goals as goal

pub returns : goal.returns
unfolding finite_sums
returns c =
    let uv = c in
    let uu = uv in
    let v = uu in
    let u = v in
    rw (
      u.finite_sum.ensures,
      u.finite_sum-2.ensures,
      v.finite_sum-3.ensures,
      uu.finite_sum-4.ensures,
      uv.finite_sum-5.ensures,
      c.finite_sum-6.ensures,
    )
