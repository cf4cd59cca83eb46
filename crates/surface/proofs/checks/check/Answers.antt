-- After each check that passes, those after it are left.
use mathlib.Core.Path.{sym, ◌∙◌}
use native.Mathlib.Omega.{arith}
use Rattle.surface.specs.Surface.{Surface, surface}
use Rattle.surface.proofs.CheckSteps.{from_counts, from_controls, from_weights, from_knots_u, from_knots_v, from_window, Leaves, large-controls, large-knots, to-counts, miscounted-controls, miscounted-weights, to-controls, not_finite, to-weights, refused-weights, to-knots, refused-u, to-knots-v, refused-v, to-window, refused-window, accepted-window}
use Rattle.surface.proofs.checks.check.Goals as goal

pub returns-then-total-gt-MAX_CONTROLS : goal.returns-then-total-gt-MAX_CONTROLS
returns-then-total-gt-MAX_CONTROLS c = large-controls _ _ c.product-total.ensures c.if-total-gt-MAX_CONTROLS.true

pub returns-then-ku-gt-MAX_KNOTS : goal.returns-then-ku-gt-MAX_KNOTS
returns-then-ku-gt-MAX_KNOTS c = large-knots _ _ c.product-total.ensures (omega arith)

pub returns-then-kv-ku : goal.returns-then-kv-ku
returns-then-kv-ku c = large-knots _ _ c.product-total.ensures (omega arith)

pub returns-then-controls-total : goal.returns-then-controls-total
returns-then-controls-total c =
    let lent : Surface = let a = c.args in surface a.shape a.ku.now a.kv.now a.controls.now a.weights.now in
    let counts-left : Leaves from_counts lent = to-counts _ _ c.product-total.ensures c.if-total-gt-MAX_CONTROLS.false (omega arith) in
    miscounted-controls _ _ c.product-total.ensures c.if-total-gt-MAX_CONTROLS.false counts-left c.if-controls-total.true

pub returns-then-weights-total : goal.returns-then-weights-total
returns-then-weights-total c =
    let lent : Surface = let a = c.args in surface a.shape a.ku.now a.kv.now a.controls.now a.weights.now in
    let counts-left : Leaves from_counts lent = to-counts _ _ c.product-total.ensures c.if-total-gt-MAX_CONTROLS.false (omega arith) in
    miscounted-weights _ _ c.product-total.ensures c.if-total-gt-MAX_CONTROLS.false counts-left c.if-weights-total.true

pub returns-then-not-all_finite : goal.returns-then-not-all_finite
returns-then-not-all_finite c =
    let lent : Surface = let a = c.args in surface a.shape a.ku.now a.kv.now a.controls.now a.weights.now in
    let counts-left : Leaves from_counts lent = to-counts _ _ c.product-total.ensures c.if-total-gt-MAX_CONTROLS.false (omega arith) in
    let controls-left : Leaves from_controls lent = to-controls _ _ c.product-total.ensures c.if-total-gt-MAX_CONTROLS.false counts-left c.if-controls-total.false c.if-weights-total.false in
    not_finite _ controls-left (sym c.all_finite.ensures ∙ c.if-not-all_finite.true)

pub returns-in_default : goal.returns-in_default
returns-in_default c =
    let lent : Surface = let a = c.args in surface a.shape a.ku.now a.kv.now a.controls.now a.weights.now in
    let counts-left : Leaves from_counts lent = to-counts _ _ c.product-total.ensures c.if-total-gt-MAX_CONTROLS.false (omega arith) in
    let controls-left : Leaves from_controls lent = to-controls _ _ c.product-total.ensures c.if-total-gt-MAX_CONTROLS.false counts-left c.if-controls-total.false c.if-weights-total.false in
    let weights-left : Leaves from_weights lent = to-weights _ controls-left (sym c.all_finite.ensures ∙ c.if-not-all_finite.false) in
    refused-weights _ weights-left (sym c.validate_weights-weighed.ensures ∙ c.in_default.is)

pub returns-then-refusal-ne0 : goal.returns-then-refusal-ne0
returns-then-refusal-ne0 c =
    let lent : Surface = let a = c.args in surface a.shape a.ku.now a.kv.now a.controls.now a.weights.now in
    let counts-left : Leaves from_counts lent = to-counts _ _ c.product-total.ensures c.if-total-gt-MAX_CONTROLS.false (omega arith) in
    let controls-left : Leaves from_controls lent = to-controls _ _ c.product-total.ensures c.if-total-gt-MAX_CONTROLS.false counts-left c.if-controls-total.false c.if-weights-total.false in
    let weights-left : Leaves from_weights lent = to-weights _ controls-left (sym c.all_finite.ensures ∙ c.if-not-all_finite.false) in
    let knots-left : Leaves from_knots_u lent = to-knots _ weights-left _ (sym c.validate_weights-weighed.ensures ∙ c.in-Scale.is) in
    refused-u _ _ knots-left c.check_knots-refusal.ensures c.if-refusal-ne0.true

pub returns-then-refusal-ne0-2 : goal.returns-then-refusal-ne0-2
returns-then-refusal-ne0-2 c =
    let lent : Surface = let a = c.args in surface a.shape a.ku.now a.kv.now a.controls.now a.weights.now in
    let counts-left : Leaves from_counts lent = to-counts _ _ c.product-total.ensures c.if-total-gt-MAX_CONTROLS.false (omega arith) in
    let controls-left : Leaves from_controls lent = to-controls _ _ c.product-total.ensures c.if-total-gt-MAX_CONTROLS.false counts-left c.if-controls-total.false c.if-weights-total.false in
    let weights-left : Leaves from_weights lent = to-weights _ controls-left (sym c.all_finite.ensures ∙ c.if-not-all_finite.false) in
    let knots-left : Leaves from_knots_u lent = to-knots _ weights-left _ (sym c.validate_weights-weighed.ensures ∙ c.in-Scale.is) in
    let knots-v-left : Leaves from_knots_v lent = to-knots-v _ _ knots-left c.check_knots-refusal.ensures c.if-refusal-ne0.false in
    refused-v _ _ knots-v-left c.check_knots-refusal-2.ensures c.if-refusal-ne0-2.true

pub window_misfits-requires : goal.window_misfits-requires
window_misfits-requires c =
    let u = c in
    (sym u.check_knots-refusal.ensures ∙ u.if-refusal-ne0.false, sym c.check_knots-refusal-2.ensures ∙ c.if-refusal-ne0-2.false)

pub returns-then-window_misfits : goal.returns-then-window_misfits
returns-then-window_misfits c =
    let lent : Surface = let a = c.args in surface a.shape a.ku.now a.kv.now a.controls.now a.weights.now in
    let counts-left : Leaves from_counts lent = to-counts _ _ c.product-total.ensures c.if-total-gt-MAX_CONTROLS.false (omega arith) in
    let controls-left : Leaves from_controls lent = to-controls _ _ c.product-total.ensures c.if-total-gt-MAX_CONTROLS.false counts-left c.if-controls-total.false c.if-weights-total.false in
    let weights-left : Leaves from_weights lent = to-weights _ controls-left (sym c.all_finite.ensures ∙ c.if-not-all_finite.false) in
    let knots-left : Leaves from_knots_u lent = to-knots _ weights-left _ (sym c.validate_weights-weighed.ensures ∙ c.in-Scale.is) in
    let knots-v-left : Leaves from_knots_v lent = to-knots-v _ _ knots-left c.check_knots-refusal.ensures c.if-refusal-ne0.false in
    let window-left : Leaves from_window lent = to-window _ _ knots-v-left c.check_knots-refusal-2.ensures c.if-refusal-ne0-2.false in
    refused-window _ window-left (sym c.window_misfits.ensures ∙ c.if-window_misfits.true)

pub returns : goal.returns
returns c =
    let lent : Surface = let a = c.args in surface a.shape a.ku.now a.kv.now a.controls.now a.weights.now in
    let counts-left : Leaves from_counts lent = to-counts _ _ c.product-total.ensures c.if-total-gt-MAX_CONTROLS.false (omega arith) in
    let controls-left : Leaves from_controls lent = to-controls _ _ c.product-total.ensures c.if-total-gt-MAX_CONTROLS.false counts-left c.if-controls-total.false c.if-weights-total.false in
    let weights-left : Leaves from_weights lent = to-weights _ controls-left (sym c.all_finite.ensures ∙ c.if-not-all_finite.false) in
    let knots-left : Leaves from_knots_u lent = to-knots _ weights-left _ (sym c.validate_weights-weighed.ensures ∙ c.in-Scale.is) in
    let knots-v-left : Leaves from_knots_v lent = to-knots-v _ _ knots-left c.check_knots-refusal.ensures c.if-refusal-ne0.false in
    let window-left : Leaves from_window lent = to-window _ _ knots-v-left c.check_knots-refusal-2.ensures c.if-refusal-ne0-2.false in
    let knots = c in
    accepted-window _ window-left _ (sym knots.validate_weights-weighed.ensures ∙ knots.in-Scale.is) (sym c.window_misfits.ensures ∙ c.if-window_misfits.false)
