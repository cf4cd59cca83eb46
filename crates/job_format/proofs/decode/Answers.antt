-- `job_format::decode` meets its contract. The invariant: the first i numbers are decoded, the others as they were. Assumes nothing.
use mathlib.Core.Path.{◌≡◌, refl, ap, ◌∙◌}
use native.Mathlib.Omega.{arith}
use lib.ListN.{set}
use Rattle.job_format.specs.Offsets.{floats_at}
use Rattle.job_format.proofs.Steps.{decode-go}
use borrow.Author.Rules.{rules}
use Rattle.job_format.proofs.decode.Goals as goal

pub loop-i-init : goal.loop-i-init
unfolding floats_at
loop-i-init c = (search rules, search rules, refl)

pub loop-i-preserved : goal.loop-i-preserved
loop-i-preserved c =
    let to = c in
    let a = to.args in
    let l = to.loop-i in (
      search rules,
      search rules,
      ap (set l.numbers l.i) c.number_at.ensures ∙ decode-go a.bytes.now a.at l.i a.numbers.now l.numbers l.invariant.2 (omega arith),
    )

pub returns : goal.returns
returns c =
    let l = c.loop-i in
    let e : l.i ≡ c.args.count = omega arith in
    rw (← e) l.invariant.2
