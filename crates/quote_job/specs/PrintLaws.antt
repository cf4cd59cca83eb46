-- What a malformed file, a refused surface and an accepted one print, and where the quote lies in the buffer that `print_quote` is lent. Assumes nothing.
use Rattle.std.specs.Prelude.{◌≡◌, true, List, ◌++◌, ℕ, suc, ◌+◌, ◌≤◌, length, take, drop}
use Rattle.std.proofs.Common.{sym, ◌∙◌, arith, length-append, length-drop, take_at}
use Rattle.std.proofs.Math.Path.{ap}
use Rattle.std.proofs.Math.Bool.{false}
use Rattle.digits.specs.Text.{ascii, digit, digits, places_in, decimal}
use Rattle.surface.specs.Surface.{refusal_of_surface, judged, checked}
use Rattle.quotation.specs.Quote.{grid_size, margin}
use Rattle.quotation.specs.QuoteLaws.{accepted-quoted}
use Rattle.job_lines.specs.Lines.{refused_line}
use Rattle.job_format.specs.Format.{malformed, read, Job, parse}
use Rattle.quote_job.specs.QuotePrintout.{most_quoted, cost_lines, quote_text, quote_by, quote_lines, quote_printed, quote_printout}

-- "A malformed file prints only `refused 12 at 0`"
pub malformed-quotes : (bytes : List ℕ) → parse bytes ≡ malformed → quote_printout bytes ≡ ascii "refused 12 at 0\n"
unfolding quote_printout quote_printed refused_line ascii digit digits places_in decimal
malformed-quotes bytes e = ap quote_printed e

module _ (bytes : List ℕ) (job : Job) (rest : List ℕ) (e : parse bytes ≡ read job rest) where
  pub surface-quotes : quote_printout bytes ≡ quote_lines job.surface
  unfolding quote_printout quote_printed
  surface-quotes = ap quote_printed e

  -- "a refused surface `refused 5 at 0` and the like"
  pub refused-quotes : (n : ℕ) → refusal_of_surface job.surface ≡ suc n → quote_printout bytes ≡ refused_line (suc n) 0
  unfolding quote_lines quote_by checked judged
  refused-quotes n h = surface-quotes ∙ simp h

  -- "it plus 198 without a hint, plus 264 with one"
  pub accepted-quotes : refusal_of_surface job.surface ≡ 0 → let size = grid_size job.surface in quote_printout bytes ≡ cost_lines size (size + 198) (size + 264)
  unfolding quote_lines quote_by quote_text checked judged margin
  accepted-quotes h = surface-quotes ∙ simp (h, accepted-quoted job.surface h false, accepted-quoted job.surface h true)

-- the tolerance, the budget and the marks are not used
pub surface-alone : (a b : List ℕ) (i j : Job) (p q : List ℕ) → parse a ≡ read i p → parse b ≡ read j q → i.surface ≡ j.surface → quote_printout a ≡ quote_printout b
surface-alone a b i j p q e f h = surface-quotes a i p e ∙ ap quote_lines h ∙ sym (surface-quotes b j q f)

-- what `print_quote` ensures: the quote is the front of the buffer, which stays as long as it was
module _ (file before : List ℕ) {buffer : List ℕ} {n : ℕ} (p : (buffer ≡ quote_printout file ++ drop n before) × ((n ≡ length (quote_printout file)) × (n ≤ most_quoted))) where
  pub front : take n buffer ≡ quote_printout file
  front = ap (take n) p.0 ∙ take_at (quote_printout file) (drop n before) n (sym p.1.0)

  pub as_long : length before ≡ most_quoted → length buffer ≡ most_quoted
  as_long h = ap length p.0 ∙ simp (length-append, length-drop) (omega arith)
