-- `quote_job::lines::put_quotes` meets its contract: a clause of the definition for each variant. Assumes nothing.
use Rattle.quote_job.proofs.Steps.{put_as, first-refused, first-quoted}
use Rattle.quote_job.proofs.lines.put_quotes.Goals as goal

pub returns-in-Refusal : goal.returns-in-Refusal
returns-in-Refusal c =
    let p = c in
    let k = p in
    put_as (first-refused _ _ _ k.in-Refusal.is) p.put_refusal.ensures.put

pub returns-in-Quoted : goal.returns-in-Quoted
returns-in-Quoted c =
    let p = c in
    let k = p in
    put_as (first-quoted _ _ _ k.in-Quoted.is) p.put_with_later.ensures
