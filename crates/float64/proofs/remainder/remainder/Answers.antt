-- The sign is taken off the bits and put back.
use Rattle.std.proofs.Common.{rules}
use Rattle.std.proofs.lemmas.Float.{T_from_false}
use Rattle.float64.specs.Order.{finite→number}
use Rattle.float64.proofs.RemainderOfBits.{not_finite, by_nan, by_zero, divided, remains}
use Rattle.float64.proofs.remainder.remainder.Goals as goal

pub returns-then-not-is_finite : goal.returns-then-not-is_finite
returns-then-not-is_finite c = not_finite _ _ (cc)

pub returns-then-is_nan : goal.returns-then-is_nan
returns-then-is_nan c = by_nan _ _ (cc)

pub returns-then-y : goal.returns-then-y
returns-then-y c = by_zero _ _ c.if-y.true

pub float_to_bits-bits : goal.float_to_bits-bits
float_to_bits-bits c = T_from_false _ (finite→number _ (cc))

pub of_sizes-requires : goal.of_sizes-requires
of_sizes-requires c = let d = divided c.args.x c.args.y (search rules) (search rules) (cc) (cc) c.if-y.false in (d.finite, d.above, d.most)

pub overflow_add-result : goal.overflow_add-result
overflow_add-result c =
    let d = divided c.args.x c.args.y (search rules) (search rules) (cc) (cc) c.if-y.false in
    record { fits = (remains (search rules) d _ c.of_sizes.ensures).width }

pub float_from_bits-result : goal.float_from_bits-result
float_from_bits-result c =
    let d = divided c.args.x c.args.y (search rules) (search rules) (cc) (cc) c.if-y.false in
    (remains (search rules) d _ c.of_sizes.ensures).number

pub returns : goal.returns
returns c =
    let d = divided c.args.x c.args.y (search rules) (search rules) (cc) (cc) c.if-y.false in
    (remains (search rules) d _ c.of_sizes.ensures).value
