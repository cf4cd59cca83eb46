-- What `jet_if` says of the point, the first derivatives and the tests.
use Rattle.patch.specs.Patch.{quotients}
use Rattle.patch.proofs.quotients.Goals as goal

pub returns : goal.returns
unfolding quotients
returns c =
    let s = c in
    let b = s in
    let a = b in
    let p = a in
    let v = p in
    let u = v in
    rw (
      c.jet_if.ensures,
      s.finite_seconds.ensures,
      b.finite_vector-3.ensures,
      a.finite_vector-2.ensures,
      p.finite_vector.ensures,
      v.first-b.ensures,
      u.first-a.ensures,
      u.point-p.ensures,
    )
