-- What is written, and then the values between x and the breaks from i on, is the whole.
use mathlib.Core.Path.{◌≡◌, refl}
use native.Mathlib.Omega.{arith}
use lib.ListN.{length, take}
use borrow.Author.Rules.{rules}
use Rattle.grid.proofs.AxisSteps.{between-begin, between_more, between-end}
use Rattle.grid.proofs.in_eighths.Goals as goal

pub loop-i-init : goal.loop-i-init
loop-i-init c =
    let b = c.args.b in
    let l : length b.at ≡ 25 = search rules in
    (omega arith, omega arith, l, refl, omega arith, between-begin b.at b.count (omega arith) (omega arith))

pub put_eighths-requires : goal.put_eighths-requires
put_eighths-requires c = (omega arith, c.loop-i.invariant.3)

pub loop-i-preserved : goal.loop-i-preserved
loop-i-preserved c =
    let at = c in
    let b = at.args.b in
    let l = at.loop-i in (
      omega arith,
      omega arith,
      l.invariant.2,
      c.put_eighths.ensures.1,
      omega arith,
      rw c.put_eighths.ensures.0 (between_more _ (take l.n l.at) b.at b.count l.i l.x l.invariant.5 (omega arith) (omega arith)),
    )

pub returns : goal.returns
returns c =
    let a = c.args in
    let l = c.loop-i in
    (between-end _ (take l.n l.at) a.b.at a.b.count l.i l.x l.invariant.5 (omega arith) (omega arith) l.at l.n a.end refl (omega arith), omega arith)
