-- `quote_job::lines::put_costs` meets its contract: its three lines one after another. Assumes nothing.
use Rattle.digits.specs.Text.{ascii}
use Rattle.digits.specs.TextLaws.{put_then}
use Rattle.quote_job.specs.QuotePrintout.{cost_lines}
use Rattle.quote_job.proofs.lines.put_costs.Goals as goal

pub returns : goal.returns
unfolding cost_lines ascii
returns c =
    let c3 = c in
    let c2 = c3 in
    let c1 = c2 in
    put_then c1.put_count-after_grid.ensures.put (put_then c2.put_count-after_first.ensures.put c3.put_count.ensures.put)
