-- What every printout begins with, what a malformed file prints, and where the printout lies in the buffer that `job` is lent. Assumes nothing.
use Rattle.std.specs.Prelude.{◌≡◌, List, ◌++◌, ℕ, ◌≤◌, ◌<◌, length, take}
use Rattle.std.proofs.Common.{sym, ap, ◌∙◌, arith, length-append, take_at}
use Rattle.digits.specs.Text.{ascii, digit, digits, places_in, decimal}
use Rattle.row.specs.Row.{rowed}
use Rattle.job_lines.specs.Lines.{marks_line, refused_line}
use Rattle.job_format.specs.Format.{most_bytes, malformed, read, Job, parse}
use Rattle.job_format.specs.FormatLaws.{too_long}
use Rattle.job.specs.Printout.{most_printed, row_lines, search_terms, job_lines, printed, printout}

-- "A malformed file prints only `refused 12 at 0`"
pub malformed-prints : (bytes : List ℕ) → parse bytes ≡ malformed → printout bytes ≡ ascii "refused 12 at 0\n"
unfolding printout printed refused_line ascii digit digits places_in decimal
malformed-prints bytes e = ap printed e

pub too-long-prints : (bytes : List ℕ) → most_bytes < length bytes → printout bytes ≡ ascii "refused 12 at 0\n"
too-long-prints bytes h = malformed-prints bytes (too_long bytes h)

-- "Line 1: marks in the file, decimal", then the row's lines
pub first-line-counts : (bytes : List ℕ) (job : Job) (rest : List ℕ) → parse bytes ≡ read job rest
    → printout bytes ≡ marks_line (length job.marks) ++ row_lines (rowed job.surface job.marks (search_terms job.terms.tolerance) job.terms.budget)
unfolding printout printed job_lines
first-line-counts bytes job rest e = ap printed e

-- what `job` ensures: the printout is the front of the buffer
module _ (file rest : List ℕ) {buffer : List ℕ} {n : ℕ} (p : (buffer ≡ printout file ++ rest) × ((n ≡ length (printout file)) × (n ≤ most_printed))) where
  pub front : take n buffer ≡ printout file
  front = ap (take n) p.0 ∙ take_at (printout file) rest n (sym p.1.0)

  pub front-inside : n ≤ length buffer
  front-inside = omega (arith, p.1.0, simp length-append at (ap length p.0))

  pub front_length : n ≡ length (take n buffer)
  front_length = p.1.0 ∙ ap length (sym front)
