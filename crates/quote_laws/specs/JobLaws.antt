-- What the quote of a job file says of its placing: with the first quote and a later one for each further mark as its budget no mark is refused for want of units. Assumes nothing.
use Rattle.std.specs.Prelude.{◌≡◌, true, false, List, ◌++◌, ℕ, ◌+◌, length}
use Rattle.surface.specs.Surface.{refusal_of_surface}
use Rattle.quotation.specs.Quote.{grid_size, margin}
use Rattle.quotation.specs.QuoteLaws.{accepted-quoted}
use Rattle.row.specs.Row.{Rowed, rowed}
use Rattle.job_lines.specs.Lines.{marks_line}
use Rattle.job_format.specs.Format.{read, Job, parse}
use Rattle.job.specs.Printout.{row_lines, search_terms, printout}
use Rattle.job.specs.PrintLaws.{first-line-counts}
use Rattle.quote_job.specs.QuotePrintout.{cost_lines, quote_printout}
use Rattle.quote_job.specs.PrintLaws.{accepted-quotes}
use Rattle.quote_laws.specs.Quotes.{quotes_of}
use Rattle.quote_laws.specs.RowLaws.{WithinQuotes, rowed-within-quotes}

-- the lines of the quote, those of the printout, and that the row behind these is within them
pub record Foretold (bytes : List ℕ) (job : Job) (grid : ℕ) (r : Rowed) : Type 0 where
  pub quotes : quote_printout bytes ≡ cost_lines grid (grid + 198) (grid + 264)
  pub prints : printout bytes ≡ marks_line (length job.marks) ++ row_lines r
  pub within : WithinQuotes job.terms.budget (quotes_of (grid + 198) (grid + 264) (length job.marks)) r

pub job-within-quotes : (bytes : List ℕ) (job : Job) (rest : List ℕ) → parse bytes ≡ read job rest → refusal_of_surface job.surface ≡ 0
    → Foretold bytes job (grid_size job.surface) (rowed job.surface job.marks (search_terms job.terms.tolerance) job.terms.budget)
unfolding margin
job-within-quotes bytes job rest e ok =
    let s = job.surface in
    record {
      quotes = accepted-quotes bytes job rest e ok;
      prints = first-line-counts bytes job rest e;
      within = rowed-within-quotes s (search_terms job.terms.tolerance) job.terms.budget _ _ (accepted-quoted s ok false) (accepted-quoted s ok true) job.marks;
    }
