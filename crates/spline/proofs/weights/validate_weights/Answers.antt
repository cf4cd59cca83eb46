-- The definition's own tests, by what one pass tells of the weights.
use Rattle.spline.proofs.WeightSteps.{none-refused, unsound-refused, vanishing-refused, scaled}
use Rattle.spline.proofs.weights.validate_weights.Goals as goal

pub returns-then-weights-eq0 : goal.returns-then-weights-eq0
returns-then-weights-eq0 c = none-refused _ c.if-weights-eq0.true

pub returns-then-not-found-is_finite : goal.returns-then-not-found-is_finite
returns-then-not-found-is_finite c =
    let at = c in
    let f = at.extremes_of-found in
    unsound-refused _ at.if-weights-eq0.false f.result.above _ _ _ f.ensures at.is_finite.ensures c.if-not-found-is_finite.true

pub returns-then-found : goal.returns-then-found
returns-then-found c =
    let at = c in
    let f = at.extremes_of-found in
    vanishing-refused _ at.if-weights-eq0.false f.result.above _ _ _ f.ensures at.is_finite.ensures c.if-not-found-is_finite.false c.if-found.true

pub returns : goal.returns
returns c =
    let at = c in
    let f = at.extremes_of-found in
    scaled _ at.if-weights-eq0.false f.result.above _ _ _ f.ensures at.is_finite.ensures c.if-not-found-is_finite.false c.if-found.false
