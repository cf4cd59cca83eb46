-- What `point` and `first` say of the sums.
use Rattle.patch.specs.Patch.{jet_of_sums}
use Rattle.patch.proofs.jet_of_sums.Goals as goal

pub returns : goal.returns
unfolding jet_of_sums
returns c =
    let a = c in
    rw (c.first-2.ensures, a.first.ensures, a.point-p.ensures)
