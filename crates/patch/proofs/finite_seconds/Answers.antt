-- What `finite_vector` says of what `second` and `mixed` say.
use Rattle.patch.specs.Patch.{finite_seconds}
use Rattle.patch.proofs.finite_seconds.Goals as goal

pub returns : goal.returns
unfolding finite_seconds
returns c =
    let uv = c in
    let uu = uv in
    rw (
      uu.finite_vector.ensures,
      uu.second.ensures,
      uv.finite_vector-2.ensures,
      uv.mixed.ensures,
      c.finite_vector-3.ensures,
      c.second-2.ensures,
    )
