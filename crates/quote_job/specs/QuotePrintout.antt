-- What the quote of a job file prints, byte for byte. Definitions only.
use Rattle.std.specs.Prelude.{true, false, List, ◌++◌, ℕ, ◌+◌, ◌*◌, take, drop, Float}
use Rattle.digits.specs.Text.{ascii, decimal}
use Rattle.domain.specs.declared.Shape.{Shape}
use Rattle.surface.specs.declared.Checked.{Checked}
use Rattle.surface.specs.declared.Checked.TheVariants as Check
use Rattle.surface.specs.Surface.{Surface, surface, checked}
use Rattle.quotation.specs.declared.Quotation.{Quotation}
use Rattle.quotation.specs.declared.Quotation.TheVariants.{Quoted, Refusal}
use Rattle.quotation.specs.Quote.{quoted}
use Rattle.job_lines.specs.Lines.{refused_line}
use Rattle.job_format.specs.Format.{Read, malformed, read, Job, knots, controls, parse}

-- room for three lines of at most 27 bytes, and so for the one of a refusal, of at most 57
abbrev pub most_quoted : ℕ
most_quoted = 81

-- a word and a count
unfoldable pub count_line : List ℕ → ℕ → List ℕ
count_line word n = word ++ (decimal n ++ ascii "\n")

unfoldable pub cost_lines : (grid first later : ℕ) → List ℕ
cost_lines grid first later = count_line (ascii "grid ") grid ++ (count_line (ascii "first ") first ++ count_line (ascii "later ") later)

-- the quotes of an inversion without a hint, as a row's first is, and of one with a hint, as each later one is
unfoldable pub quote_text : (first later : Quotation) → List ℕ
quote_text (Quoted first) (Quoted later) = cost_lines first.grid first.most later.most
quote_text (Quoted first) (Refusal n) = refused_line n 0
quote_text (Refusal n) later = refused_line n 0

-- the surface is checked whole, its controls and weights too
unfoldable pub quote_by : Surface → Checked → List ℕ
quote_by s (Check.Refusal n) = refused_line n 0
quote_by s (Check.Scale m) = quote_text (quoted s false) (quoted s true)

unfoldable pub quote_lines : Surface → List ℕ
quote_lines s = quote_by s (checked s)

-- of the terms and the marks nothing is printed
unfoldable pub quote_printed : Read Job → List ℕ
quote_printed malformed = refused_line 12 0
quote_printed (read job rest) = quote_lines job.surface

unfoldable pub quote_printout : List ℕ → List ℕ
quote_printout bytes = quote_printed (parse bytes)

-- ---- for contracts of code

-- the surface whose numbers are at the front of a list
unfoldable pub surface_in : Shape → List Float → Surface
surface_in shape numbers =
    let u = knots shape.u in
    let v = knots shape.v in
    let n = controls shape in
    surface shape (take u numbers) (take v (drop u numbers)) (take (3 * n) (drop (u + v) numbers)) (take n (drop (u + v + 3 * n) numbers))
