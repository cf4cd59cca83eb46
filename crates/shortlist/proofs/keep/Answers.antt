-- The early return is right since what is held rises, and so does the root.
use mathlib.Core.Path.{ap, ◌∙◌}
use lib.Ieee.{Float}
use Rattle.shortlist.specs.FirstSix.{start_at}
use Rattle.shortlist.specs.Insert.{starts_in, kept}
use Rattle.shortlist.specs.LimitLaws.{no-limit}
use Rattle.shortlist.proofs.Places.{no-nearer, unmapped, starts-count}
use Rattle.shortlist.proofs.keep.Goals as goal

pub returns-then-last-distance : goal.returns-then-last-distance
returns-then-last-distance c =
    let full = c in
    let a = full in
    let s = a.args.s in
    let n = no-nearer s a.args.square full.root-distance.ensures (starts-count s a.requires.0 (search (unmapped))) full.if-s-eq6.true a.requires.1 a.requires.2 a.requires.3 c.if-last-distance.true a.args.u a.args.v in
    (n.0, a.requires.0, n.1)

pub returns : goal.returns
returns c =
    let at = c in
    let a = at.args in
    let e = c.enter-starts.ensures in
    (e.0 ∙ ap (λ (d : Float). kept (start_at d a.u a.v) (starts_in a.s)) at.root-distance.ensures, e.1, no-limit _)
