-- One more break behind those that are held.
use mathlib.Core.Path.{◌≡◌, refl}
use native.Mathlib.Omega.{arith}
use lib.ListN.{length}
use borrow.Author.Rules.{rules}
use Rattle.grid.proofs.AxisSteps.{pushed}
use Rattle.grid.proofs.add_break.Goals as goal

pub returns : goal.returns
returns c =
    let n : length c.args.b.at ≡ 25 = search rules in
    (pushed c.args.b.at c.args.b.count _ (omega arith), refl)
