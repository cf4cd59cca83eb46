-- By what the checks answer.
use mathlib.Core.Path.{sym, ◌∙◌}
use Rattle.surface.specs.Surface.{Surface, surface}
use Rattle.surface.specs.Doubles.{Doubled}
use Rattle.scaled.proofs.AcceptSteps.{sound, accepts}
use Rattle.scaled.proofs.accepting.accept.Goals as goal

pub window_of-window-requires : goal.window_of-window-requires
window_of-window-requires c =
    let of : Surface = let a = c.args in surface a.shape a.ku.now a.kv.now a.controls.now a.weights.now in
    let k = c in
    let a = sound of k.check-checked.ensures c.in-Scale.is in
    (a.knots-u, a.knots-v)

pub returns-in-Refusal : goal.returns-in-Refusal
returns-in-Refusal c = sym c.check-checked.ensures ∙ c.in-Refusal.is

pub returns-in-Scale : goal.returns-in-Scale
returns-in-Scale c =
    let of : Surface = let a = c.args in surface a.shape a.ku.now a.kv.now a.controls.now a.weights.now in
    let v = c in
    let u = v in
    let d = u in
    let scale = d in
    let k = scale in
    let knots = k in
    let doubles : Doubled of = record {
      u = λ i h. knots.shared_slice_known-1.given i;
      v = λ i h. knots.shared_slice_known-2-1.given i;
      window = d.window_of-window.ensures.double_window;
    } in
    accepts of k.check-checked.ensures scale.in-Scale.is _ u.bounded.result v.bounded-in-Scale.result c.all_within.result d.window_of-window.ensures.value (u.bounded.ensures _ _) (v.bounded-in-Scale.ensures _ _) c.all_within.ensures doubles
