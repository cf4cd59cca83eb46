-- The functions at the parameter as it wraps.

use Rattle.scaled.proofs.first_order.sample_values.Goals as goal

pub wrap_on-t-requires : goal.wrap_on-t-requires
wrap_on-t-requires c = c.requires.0

pub tabulate_values-requires : goal.tabulate_values-requires
tabulate_values-requires c = c.requires

pub returns : goal.returns
returns c =
    let e = c.wrap_on-t.ensures in
    rw e at c.tabulate_values.ensures
