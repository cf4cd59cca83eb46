-- `job::marks::put_step` meets its contract, by the step's cases. Assumes nothing.
use Rattle.newton.specs.declared.Ending.{Ending}
use Rattle.newton.specs.Run.{ending_number}
use Rattle.newton.specs.EndLaws.{ending-digit}
use Rattle.job.specs.Turns.{step_line}
use Prim.Native.Nat.{◌<◌}
use native.Mathlib.Omega.{arith}
use Rattle.job.proofs.marks.put_step.Goals as goal

one-digit : (how : Ending) → ending_number how < 10
one-digit how = omega (arith, ending-digit how)

pub put_pair-requires : goal.put_pair-requires
put_pair-requires c =
    let e = c in
    let k = e in
    let s = k in
    let n = rw k.in-Placed.is at s.requires.1 in
    (s.requires.0, n.0.0, n.0.1, rw e.ending_number-number.ensures (one-digit _))

pub returns-in-Placed : goal.returns-in-Placed
unfolding step_line
returns-in-Placed c =
    let p = c in
    let e = p in
    rw e.in-Placed.is (rw e.ending_number-number.ensures at p.put_pair.ensures)

pub returns-in-Refusal : goal.returns-in-Refusal
unfolding step_line
returns-in-Refusal c =
    let p = c in
    rw p.in-Refusal.is p.put_refusal.ensures
