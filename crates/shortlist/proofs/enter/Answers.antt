-- The place is where one as far stands, or where x goes.
use mathlib.Core.Path.{◌≡◌, ◌∙◌}
use mathlib.Core.Bool.{false}
use Prim.Native.Nat.{◌<◌}
use native.Mathlib.Omega.{arith}
use lib.ListN.{length, get_or}
use lib.Ieee.{eq}
use Rattle.shortlist.specs.Insert.{starts_in}
use Rattle.shortlist.proofs.Places.{none, place-le, met, new, unmapped, starts-count}
use Rattle.shortlist.proofs.enter.Goals as goal
use Rattle.shortlist.proofs.enter.Goals.{then-i-count+else-x-y, else-i-count}

pub returns-then-x-y : goal.returns-then-x-y
returns-then-x-y c =
    let holds : length (starts_in c.args.s) ≡ c.args.s.count = starts-count c.args.s c.requires (search (unmapped)) in
    let at = c in
    let start = at in
    (met _ _ at.place-i.result holds start.requires at.place-i.ensures (omega arith) c.if-x-y.true, start.requires)

pub splice-requires : goal.splice-requires
splice-requires c =
    let holds : length (starts_in c.args.s) ≡ c.args.s.count = starts-count c.args.s c.requires (search (unmapped)) in
    let at = c in
    let start = at in
    (omega arith, omega (arith, at.place-i.ensures, place-le start.args.x.distance (starts_in start.args.s), holds))

pub returns : goal.returns
returns c =
    let holds : length (starts_in c.args.s) ≡ c.args.s.count = starts-count c.args.s c.requires (search (unmapped)) in
    let at = c in
    let start = at in
    let s = start.args.s in
    let differs : at.place-i.result < s.count → eq start.args.x.distance (get_or s.at at.place-i.result none).distance ≡ false =
    elim c.if-i-count.branch [ then-i-count+else-x-y w ↦ λ l. w.if-x-y.false | else-i-count w ↦ λ l. absurd (omega (arith, w.if-i-count)) ] in
    (c.splice.ensures.0 ∙ new s _ at.place-i.result holds start.requires at.place-i.ensures differs, c.splice.ensures.1)
