-- The definition's own tests, in its order.
use Rattle.spline.specs.Knots.{snapped}
use Rattle.spline.proofs.parameter.snap.Goals as goal

pub returns-then-not-is_finite : goal.returns-then-not-is_finite
unfolding snapped
returns-then-not-is_finite c = simp (← c.is_finite.ensures, c.if-not-is_finite.true)

pub returns-then-near : goal.returns-then-near
unfolding snapped
returns-then-near c =
    simp (← c.is_finite.ensures, c.if-not-is_finite.false, c.if-u-low.true, ← c.near.ensures, c.if-near.true)

pub returns-then-u-low : goal.returns-then-u-low
unfolding snapped
returns-then-u-low c =
    simp (← c.is_finite.ensures, c.if-not-is_finite.false, c.if-u-low.true, ← c.near.ensures, c.if-near.false)

pub returns-then-near-2 : goal.returns-then-near-2
unfolding snapped
returns-then-near-2 c =
    simp (← c.is_finite.ensures, c.if-not-is_finite.false, c.if-u-low.false, c.if-high-u.true, ← c.near-then-high-u.ensures, c.if-near-2.true)

pub returns-then-high-u : goal.returns-then-high-u
unfolding snapped
returns-then-high-u c =
    simp (← c.is_finite.ensures, c.if-not-is_finite.false, c.if-u-low.false, c.if-high-u.true, ← c.near-then-high-u.ensures, c.if-near-2.false)

pub returns : goal.returns
unfolding snapped
returns c = simp (← c.is_finite.ensures, c.if-not-is_finite.false, c.if-u-low.false, c.if-high-u.false)
