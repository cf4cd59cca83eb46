-- The two counts are those of the values, in the window that the checks passed.
use native.Mathlib.Nat.{mul-le-mul}
use native.Mathlib.Omega.{arith}
use Rattle.surface.specs.Surface.{Surface, bare}
use Rattle.surface.specs.SurfaceLaws.{small, accepted-axes}
use Rattle.quotation.specs.QuoteLaws.{size-counted}
use Rattle.quotation.proofs.grid_size.Goals as goal

pub window_of-window-requires : goal.window_of-window-requires
window_of-window-requires c = let a = accepted-axes _ _ _ c.requires.1 in (a.0, a.1)

pub count_values-requires : goal.count_values-requires
count_values-requires c =
    let lent : Surface = bare c.args.shape c.args.ku.now c.args.kv.now in
    let s = c in omega (arith, (small lent s.requires.0).1)

pub count_values-requires-2 : goal.count_values-requires-2
count_values-requires-2 c =
    let lent : Surface = bare c.args.shape c.args.ku.now c.args.kv.now in
    let s = c in omega (arith, (small lent s.requires.0).1)

pub overflow_mul-size : goal.overflow_mul-size
overflow_mul-size c = omega (arith, mul-le-mul c.count_values.ensures.1 c.count_values-2.ensures.1)

pub returns : goal.returns
returns c =
    let lent : Surface = bare c.args.shape c.args.ku.now c.args.kv.now in
    let u = c in
    let w = u in
    let s = w in
    (size-counted lent s.requires.1 _ w.window_of-window.ensures.value _ _ u.count_values.ensures.0 c.count_values-2.ensures.0, mul-le-mul u.count_values.ensures.1 c.count_values-2.ensures.1)
