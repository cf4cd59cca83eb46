-- `digits::places` meets its contract. The invariant: the digits counted so far and those of what is left are all. Assumes nothing.
use mathlib.Core.Path.{◌≡◌, ◌∙◌}
use Prim.Native.Nat.{◌+◌, ◌-◌}
use native.Mathlib.Omega.{arith}
use Rattle.digits.proofs.Steps.{places-go, places-over}
use borrow.Author.Rules.{rules}
use Rattle.digits.proofs.places.Goals as goal

pub loop-rest-smaller : goal.loop-rest-smaller
loop-rest-smaller c =
    let l = c.loop-rest in
    omega (arith, (places-go (20 - l.k) l.rest c.loop-rest-test.true l.invariant.2).0)

pub loop-rest-preserved : goal.loop-rest-preserved
loop-rest-preserved c =
    let l = c.loop-rest in
    let g = places-go (20 - l.k) l.rest c.loop-rest-test.true l.invariant.2 in
    let e : 20 - l.k - 1 ≡ 20 - (l.k + 1) = omega arith in (
      search rules,
      omega (arith, g.0),
      rw e at g.1,
      l.invariant.3 ∙ omega (arith, g.0, rw e at g.2),
    )

pub returns : goal.returns
returns c =
    let l = c.loop-rest in
    (omega (arith, places-over (20 - l.k) l.rest c.loop-rest-test.false), search rules)
