use native.Mathlib.Omega.{arith}
use Rattle.lent.specs.FitLaws.{job-room}
use Rattle.placing.specs.Boundary.{prints}
use Rattle.job.specs.PrintLaws.{front-inside, front_length}
use Rattle.placing.proofs.Steps.{job-unfit, job-fits}
use Rattle.placing.proofs.placing_job.Goals as goal

pub returns-then-not-fits_job : goal.returns-then-not-fits_job
unfolding prints
returns-then-not-fits_job c = job-unfit _ _ _ c.fits_job.ensures (c.if-not-fits_job.true)

pub slice_bounds-text-end : goal.slice_bounds-text-end
slice_bounds-text-end c = front-inside _ _ (c.job-count.ensures.out_after, c.job-count.ensures.value)

pub slice_bounds-lay_printout-end : goal.slice_bounds-lay_printout-end
slice_bounds-lay_printout-end c = front_length _ _ (c.job-count.ensures.out_after, c.job-count.ensures.value)

pub lay_printout-requires : goal.lay_printout-requires
lay_printout-requires c =
    let jo = c in
    let el = jo in
    let r = job-room _ _ el.fits_job.ensures (el.if-not-fits_job.false) in
    (omega (arith, front_length _ _ (c.job-count.ensures.out_after, c.job-count.ensures.value), c.job-count.ensures.value.1, r.0), r.1)

pub returns : goal.returns
unfolding prints
returns c =
    let la = c in
    let jo = la in
    let el = jo in
    job-fits _ _ (c.job-count.ensures.out_after, c.job-count.ensures.value) _ _ el.fits_job.ensures el.if-not-fits_job.false la.lay_printout.ensures
