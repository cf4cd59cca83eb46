-- The loop's invariant: all are finite where those before i and those from i on are.
use mathlib.Core.Path.{refl, sym, ap, ◌∙◌}
use mathlib.Core.Bool.{Bool, ◌&&◌}
use Prim.Native.Nat.{◌+◌}
use native.Mathlib.Omega.{arith}
use lib.ListN.{drop}
use Rattle.spline.specs.Knots.{all_finite}
use Rattle.spline.specs.Each.{tells_more, tells_all}
use Rattle.surface.specs.SurfaceLaws.{finite-each}
use borrow.Author.Rules.{rules}
use Rattle.surface.proofs.checks.all_finite.Goals as goal

pub loop-i-init : goal.loop-i-init
loop-i-init c = (omega arith, search rules, refl)

pub loop-i-preserved : goal.loop-i-preserved
loop-i-preserved c =
    let l = c.loop-i in
    let rest = c.args.controls.now in
    (omega arith, omega arith, tells_more finite-each _ l.i l.all l.invariant.2 (omega arith) ∙ ap (λ (t : Bool). (l.all && t) && all_finite (drop (l.i + 1) rest)) (sym c.is_finite-all.ensures))

pub returns : goal.returns
returns c =
    let l = c.loop-i in
    tells_all finite-each _ l.i l.all l.invariant.2 (omega arith)
