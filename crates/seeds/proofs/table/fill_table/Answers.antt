-- The values before the j-th have their functions, and the rows of those after it are empty.
use mathlib.Core.Path.{◌≡◌}
use Prim.Native.Nat.{◌<◌}
use native.Mathlib.Omega.{arith}
use Rattle.seeds.proofs.TableSteps.{none-tabled, all-blank, one-tabled, rest-blank}
use Rattle.seeds.proofs.table.fill_table.Goals as goal

pub loop-j-init : goal.loop-j-init
loop-j-init c =
    let pre = c.requires in
    (omega arith, none-tabled _ _ _ _ pre.3 pre.4, all-blank pre.3 0)

pub first_of-requires : goal.first_of-requires
first_of-requires c =
    let turn = c in
    let l = turn.loop-j in
    let pre = c.requires in
    (pre.0, pre.1, l.invariant.2 l.j (omega arith) (omega (arith, turn.loop-j-test.true, pre.2)))

pub loop-j-preserved : goal.loop-j-preserved
loop-j-preserved c =
    let turn = c in
    let l = turn.loop-j in
    let room : l.j < 193 = omega (arith, turn.loop-j-test.true, c.requires.2) in
    (omega arith, one-tabled _ _ _ _ l.invariant.1 room _ _ c.first_of.ensures, rest-blank l.table l.j _ l.invariant.2)

pub returns : goal.returns
returns c =
    let l = c.loop-j in
    let e : l.j ≡ c.args.values.count = omega arith in
    rw e at l.invariant.1
