-- Nothing rises, and a NaN is no limit.
use mathlib.Core.Path.{refl}
use native.Mathlib.Omega.{arith}
use Rattle.shortlist.specs.Insert.{empty}
use Rattle.shortlist.specs.LimitLaws.{no-limit}
use Rattle.shortlist.proofs.no_starts.Goals as goal

pub returns : goal.returns
returns c = (refl, record { six = omega arith; rising = empty; limits = no-limit _ })
