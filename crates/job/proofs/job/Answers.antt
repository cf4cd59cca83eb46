-- `job::job` meets its contract: what is put at the buffer's front is the printout. Assumes nothing.
use native.Mathlib.Omega.{arith}
use Rattle.job.proofs.Numbers.{laid-fits, prints-refusal, prints-job, put_front}
use Rattle.job.proofs.job.Goals as goal

pub print_job-requires : goal.print_job-requires
print_job-requires c =
    let l = c in
    laid-fits _ l.layout_of-layout.result _ _ l.layout_of-layout.ensures.laid c.in-WellFormed.is

pub returns-in-Malformed : goal.returns-in-Malformed
returns-in-Malformed c =
    let l = c.layout_of-layout in
    let a = c.args in
    let p = put_front (prints-refusal a.bytes.now l.result l.ensures.bytes_value c.in-Malformed.is) (omega (arith, c.put_refusal.ensures.upper_bound)) c.put_refusal.ensures.put in
    record { out_after = p.0; value = p.1 }

pub returns-in-WellFormed : goal.returns-in-WellFormed
returns-in-WellFormed c =
    let l = c.layout_of-layout in
    let a = c.args in
    let p = put_front (prints-job a.bytes.now l.result l.ensures.bytes_value _ _ c.in-WellFormed.is) c.print_job.ensures.upper_bound c.print_job.ensures.put in
    record { out_after = p.0; value = p.1 }
