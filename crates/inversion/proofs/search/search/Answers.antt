-- The invariant: the steps of the whole are those that are left, with what is taken and kept so far.
use mathlib.Core.Path.{◌≡◌, refl}
use native.Mathlib.Omega.{arith}
use lib.ListN.{length}
use Rattle.shortlist.proofs.Places.{unmapped}
use Rattle.inversion.proofs.SearchSteps.{run_fits, end_fits, search-ends, search-spent, search-refused, search-goes}
use Rattle.inversion.proofs.search.search.Goals as goal

pub loop-i-init : goal.loop-i-init
loop-i-init c =
    let a = c in
    let n : length a.args.starts.at ≡ 6 = search (a.well_formed.1.1.1.1.1.1.0, unmapped) in
    (omega arith, record { fit = omega (arith, a.requires.1); within = a.requires.2; whole = refl })

pub returns-in-Spent : goal.returns-in-Spent
returns-in-Spent c =
    let to = c in
    let at = to in
    search-spent _ _ _ at.loop-i.invariant.1 at.loop-i-test.true to.run.ensures c.in-Spent.is

pub overflow_add-result : goal.overflow_add-result
overflow_add-result c =
    let to = c in
    let at = to in
    let from = at in
    record { fits = omega (arith, from.ranges, run_fits _ _ _ at.loop-i.invariant.1 at.loop-i-test.true to.run.ensures _ c.in-Refused.is) }

pub returns-in-Refused : goal.returns-in-Refused
returns-in-Refused c =
    let to = c in
    let at = to in
    search-refused _ _ _ at.loop-i.invariant.1 at.loop-i-test.true to.run.ensures _ c.in-Refused.is

pub overflow_cast-origin : goal.overflow_cast-origin
overflow_cast-origin c =
    let at = c in
    let from = at in
    record { fits = omega (arith, from.requires.1, at.loop-i-test.true) }

pub overflow_add-taken : goal.overflow_add-taken
overflow_add-taken c =
    let to = c in
    let at = to in
    let from = at in
    record { fits = omega (arith, from.ranges, end_fits _ _ _ at.loop-i.invariant.1 at.loop-i-test.true to.run.ensures _ _ c.in-Ended.is) }

pub loop-i-preserved : goal.loop-i-preserved
loop-i-preserved c =
    let to = c in
    let at = to in
    (omega arith, search-goes _ _ _ at.loop-i.invariant.1 at.loop-i-test.true to.run.ensures _ _ c.in-Ended.is c.keep-best.ensures)

pub conclude-requires : goal.conclude-requires
conclude-requires c = c.loop-i.invariant.1.within

pub returns : goal.returns
returns c =
    let at = c.loop-i in
    search-ends _ _ _ at.invariant.1 (omega (arith, at.invariant.0)) c.conclude.ensures
