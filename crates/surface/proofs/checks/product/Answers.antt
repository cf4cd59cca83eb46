-- A quotient of the limit tells whether the product is over it.
use native.Mathlib.Omega.{arith}
use Rattle.surface.proofs.CheckSteps.{no-product, product-over, product-within}
use Rattle.surface.proofs.checks.product.Goals as goal

pub returns-then-a-eq0 : goal.returns-then-a-eq0
returns-then-a-eq0 c = no-product _ _ c.if-a-eq0.true

pub returns-then-b-a : goal.returns-then-b-a
returns-then-b-a c = omega (arith, product-over _ _ c.if-a-eq0.false c.if-b-a.true)

pub overflow_mul-result : goal.overflow_mul-result
overflow_mul-result c = omega (arith, product-within _ _ c.if-a-eq0.false c.if-b-a.false)

pub returns : goal.returns
returns c = omega (arith, product-within _ _ c.if-a-eq0.false c.if-b-a.false)
