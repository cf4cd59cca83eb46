-- `digits::put_hex` meets its contract: sixteen digits. Assumes nothing.
use mathlib.Core.Path.{refl}
use native.Mathlib.Omega.{arith}
use Rattle.digits.proofs.Steps.{hex-put}
use Rattle.digits.proofs.put_hex.Goals as goal

pub returns : goal.returns
returns c =
    let a = c.args in
    record { put = hex-put a.at a.out.now _ a.n c.spell.ensures (omega arith); value = refl }
