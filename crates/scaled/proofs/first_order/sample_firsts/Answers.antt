-- The functions at the parameter as it wraps.

use Rattle.scaled.proofs.first_order.sample_firsts.Goals as goal

pub wrap_on-t-requires : goal.wrap_on-t-requires
wrap_on-t-requires c = c.requires.0

pub tabulate_firsts-requires : goal.tabulate_firsts-requires
tabulate_firsts-requires c = c.requires

pub returns : goal.returns
returns c =
    let e = c.wrap_on-t.ensures in
    record { values_after = rw e at c.tabulate_firsts.ensures.values_after; firsts_after = rw e at c.tabulate_firsts.ensures.firsts_after }
