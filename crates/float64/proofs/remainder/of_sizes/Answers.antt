-- Where a is not below b, it has at least as many zeros.
use Rattle.std.specs.Prelude.{ℕ, ◌*◌, ◌^◌}
use Rattle.std.proofs.Common.{ap, ◌∙◌, arith}
use Rattle.float64.proofs.RemainderOfBits.{itself, by_digits}
use Rattle.float64.proofs.remainder.of_sizes.Goals as goal

pub returns-then-a-b : goal.returns-then-a-b
returns-then-a-b c = itself _ _ c.if-a-b.true

pub returns : goal.returns
returns c = c.pattern.ensures ∙ ap (λ (r : ℕ). r * 2 ^ c.zeros-q.result) c.reduced.ensures ∙ by_digits _ _ _ _ c.zeros-p.ensures c.zeros-q.ensures (omega arith) (omega arith)
