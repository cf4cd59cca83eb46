-- `quote_job::print_surface` meets its contract: the refusal of the checks, or the two quotes. Assumes nothing.
use Rattle.quote_job.proofs.Steps.{put_as, lines-refused, lines-checked}
use Rattle.quote_job.proofs.print_surface.Goals as goal

pub returns-in-Refusal : goal.returns-in-Refusal
returns-in-Refusal c =
    let p = c in
    let k = p in
    put_as (lines-refused _ _ _ _ _ _ k.check.ensures _ k.in-Refusal.is) p.put_refusal.ensures.put

pub returns-in-Scale : goal.returns-in-Scale
returns-in-Scale c =
    let p = c in
    let l = p in
    let f = l in
    let k = f in
    put_as (lines-checked _ _ _ _ _ _ k.check.ensures _ k.in-Scale.is _ _ f.quote-first.ensures l.quote-later.ensures) p.put_quotes.ensures
