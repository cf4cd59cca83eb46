-- `quote_job::print_quote` meets its contract: what is put at the buffer's front is the quote. Assumes nothing.
use native.Mathlib.Omega.{arith}
use Rattle.quote_job.proofs.Steps.{laid-numbers, prints-refusal, prints-lines, put_front}
use Rattle.quote_job.proofs.print_quote.Goals as goal

pub print_shape-requires : goal.print_shape-requires
print_shape-requires c =
    let l = c in
    laid-numbers _ l.layout_of-layout.result _ _ l.layout_of-layout.ensures.laid c.in-WellFormed.is

pub returns-in-Malformed : goal.returns-in-Malformed
returns-in-Malformed c =
    let l = c.layout_of-layout in
    let p = put_front (prints-refusal c.args.bytes.now l.result l.ensures.bytes_value c.in-Malformed.is) (omega (arith, c.put_refusal.ensures.upper_bound)) c.put_refusal.ensures.put in
    record { out_after = p.0; value = p.1 }

pub returns-in-WellFormed : goal.returns-in-WellFormed
returns-in-WellFormed c =
    let l = c.layout_of-layout in
    let p = put_front (prints-lines c.args.bytes.now l.result l.ensures.bytes_value _ _ c.in-WellFormed.is) c.print_shape.ensures.upper_bound c.print_shape.ensures.put in
    record { out_after = p.0; value = p.1 }
