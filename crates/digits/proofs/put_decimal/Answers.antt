-- `digits::put_decimal` meets its contract: as many digits as there are places. Assumes nothing.
use native.Mathlib.Omega.{arith}
use Rattle.digits.proofs.Steps.{decimal-put}
use Rattle.digits.proofs.put_decimal.Goals as goal

pub returns : goal.returns
returns c =
    let a = c.args in
    record {
      put = decimal-put a.at a.out.now _ c.places-k.result a.n c.places-k.ensures.0 c.spell.ensures (omega arith);
      upper_bound = omega arith;
    }
