-- A branch for each of the three tests of a knot, and for the ends, past which there is nothing to compare with.
use mathlib.Core.Path.{sym, ◌∙◌}
use native.Mathlib.Omega.{arith}
use Rattle.spline.proofs.KnotSteps.{not_finite, last, descends, later, none-later}
use Rattle.spline.proofs.knots.knot_fits.Goals as goal

pub returns-then-not-is_finite : goal.returns-then-not-is_finite
returns-then-not-is_finite c =
    let a = c.args in
    not_finite a.most a.knots.now a.i (omega arith) (sym c.is_finite.ensures ∙ c.if-not-is_finite.true)

pub returns-then-i-knots : goal.returns-then-i-knots
returns-then-i-knots c =
    let a = c.args in
    last a.most a.knots.now a.i (omega arith) (sym c.is_finite.ensures ∙ c.if-not-is_finite.false) (omega arith) (omega arith)

pub returns-then-not-k-knots : goal.returns-then-not-k-knots
returns-then-not-k-knots c =
    let a = c.args in
    descends a.most a.knots.now a.i (omega arith) (sym c.is_finite.ensures ∙ c.if-not-is_finite.false) (omega arith) (c.if-not-k-knots.true)

pub returns-then-most-knots : goal.returns-then-most-knots
returns-then-most-knots c =
    let a = c.args in
    later a.most a.knots.now a.i (omega arith) (sym c.is_finite.ensures ∙ c.if-not-is_finite.false) (omega arith) (c.if-not-k-knots.false) (omega arith)

pub returns : goal.returns
returns c =
    let a = c.args in
    none-later a.most a.knots.now a.i (omega arith) (sym c.is_finite.ensures ∙ c.if-not-is_finite.false) (omega arith) (c.if-not-k-knots.false) (omega arith)
