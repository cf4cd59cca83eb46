-- The digits and zeros that are left have the remainder that is asked for.
use Rattle.std.specs.Prelude.{◌≡◌, ◌*◌, ◌%◌, ◌^◌, ◌<◌}
use Rattle.float64.proofs.remainder.reduced.Given as goal

abbrev pub invariant-loop-left : goal.invariant-loop-left
invariant-loop-left l = (l.rest < 2 ^ 53) × (l.rest * 2 ^ l.left % l.divisor ≡ l.digits * 2 ^ l.zeros % l.divisor)

abbrev pub decreases-loop-left : goal.decreases-loop-left
decreases-loop-left l = l.left
