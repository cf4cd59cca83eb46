-- The functions at the parameter as it wraps.

use Rattle.surface.proofs.jets.sample.Goals as goal

pub wrap_on-t-requires : goal.wrap_on-t-requires
wrap_on-t-requires c = c.requires.0

pub tabulate-requires : goal.tabulate-requires
tabulate-requires c = c.requires

pub returns : goal.returns
returns c =
    let e = c.wrap_on-t.ensures in
    rw e at c.tabulate.ensures
