-- What a walk of the grid answers. Definitions only.
use Rattle.std.specs.Prelude.{cond, List, eqb}
use Rattle.price.specs.Price.{refused, answered, Paid, spent, paid}
use Rattle.shortlist.specs.declared.Start.{Start}
use Rattle.seeds.specs.declared.Walked.{Walked}
use Rattle.shortlist.specs.Insert.{starts_in}

-- by its number
unfoldable pub walked_of : Walked → Paid (List Start)
walked_of w = cond (eqb w.refusal 0) (paid (answered (starts_in w.starts) w.taken)) (cond (eqb w.refusal 9) (paid (refused w.taken)) spent)
