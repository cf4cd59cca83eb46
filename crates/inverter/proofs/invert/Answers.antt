use Rattle.scaled.specs.Accepted.{by_shape}
use Rattle.inverter.specs.Inverter.{placed}
use Rattle.inverter.proofs.Steps.{refused, unrefused, passed}
use Rattle.inverter.proofs.invert.Goals as goal

pub invert_checked-requires : goal.invert_checked-requires
invert_checked-requires c = by_shape (rw c.in-Accepted.is at c.accept.ensures)

pub returns-in-Refusal : goal.returns-in-Refusal
unfolding placed
returns-in-Refusal c =
    let number = rw c.in-Refusal.is at c.accept.ensures in
    record { value = refused _ _ number; doubled = λ ok. absurd (unrefused _ ok number) }

pub returns-in-Accepted : goal.returns-in-Accepted
unfolding placed
returns-in-Accepted c =
    let to = c in
    let known = rw to.in-Accepted.is at to.accept.ensures in
    record { value = passed _ _ known.checked (rw known.shape at c.invert_checked.ensures); doubled = λ ok. known.doubles }
