-- `quote_job::lines::put_count` meets its contract: its three texts one after another. Assumes nothing.
use native.Mathlib.Omega.{arith}
use Rattle.digits.specs.Text.{ascii}
use Rattle.digits.specs.TextLaws.{put_then}
use Rattle.quote_job.specs.QuotePrintout.{count_line}
use Rattle.quote_job.proofs.lines.put_count.Goals as goal

pub returns : goal.returns
unfolding count_line ascii
returns c =
    let c3 = c in
    let c2 = c3 in
    let c1 = c2 in
    record { put = put_then c1.put-after_word.ensures (put_then c2.put_decimal-after_count.ensures.put c3.put.ensures); upper_bound = omega (arith, c1.put-after_word.ensures.next-is) }
