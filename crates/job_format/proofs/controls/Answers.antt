-- `job_format::controls` meets its contract: a product of two counts of 16 bits fits. Assumes nothing.
use mathlib.Core.Path.{refl}
use native.Mathlib.Omega.{arith}
use Rattle.job_format.proofs.Steps.{product}
use Rattle.job_format.proofs.controls.Goals as goal

pub overflow_mul-result : goal.overflow_mul-result
overflow_mul-result c = omega (arith, product c.args.shape.u.controls c.args.shape.v.controls c.requires.0 c.requires.1)

pub returns : goal.returns
returns c = (refl, product c.args.shape.u.controls c.args.shape.v.controls c.requires.0 c.requires.1)
