-- By the product of the counts, and by the knots of both axes.
use native.Mathlib.Omega.{arith}
use Rattle.surface.specs.Surface.{Surface, bare}
use Rattle.surface.proofs.AxesSteps.{many-controls, many-knots, few}
use Rattle.surface.proofs.axes.too_large.Goals as goal

pub returns-then-product-gt-MAX_CONTROLS : goal.returns-then-product-gt-MAX_CONTROLS
returns-then-product-gt-MAX_CONTROLS c =
    let lent : Surface = let a = c.args in bare a.shape a.ku.now a.kv.now in
    many-controls lent _ c.product.ensures c.if-product-gt-MAX_CONTROLS.true

pub returns-then-ku-gt-MAX_KNOTS : goal.returns-then-ku-gt-MAX_KNOTS
returns-then-ku-gt-MAX_KNOTS c =
    let lent : Surface = let a = c.args in bare a.shape a.ku.now a.kv.now in
    let p = c in many-knots lent _ p.product.ensures (omega arith)

pub returns-then-kv-ku : goal.returns-then-kv-ku
returns-then-kv-ku c =
    let lent : Surface = let a = c.args in bare a.shape a.ku.now a.kv.now in
    let p = c in many-knots lent _ p.product.ensures (omega arith)

pub returns : goal.returns
returns c =
    let lent : Surface = let a = c.args in bare a.shape a.ku.now a.kv.now in
    let p = c in few lent _ p.product.ensures c.if-product-gt-MAX_CONTROLS.false (omega arith)
