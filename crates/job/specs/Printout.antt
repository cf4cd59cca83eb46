-- What a job file prints, byte for byte. Definitions only.
use Rattle.std.specs.Prelude.{List, [], ◌∷◌, ◌++◌, ℕ, length, Float}
use Rattle.inversion.specs.declared.Hint.TheVariants.{Nothing}
use Rattle.chart.specs.declared.Period.TheVariants.{Free}
use Rattle.chart.specs.declared.Terms.{Terms}
use Rattle.row.specs.declared.RowEnd.{RowEnd}
use Rattle.row.specs.declared.RowEnd.TheVariants.{Placed, Refusal}
use Rattle.row.specs.Row.{Entry, Rowed, rowed, u_of, v_of, end_of}
use Rattle.job_lines.specs.Lines.{marks_line, pair_line, refused_line}
use Rattle.job_format.specs.Format.{Read, malformed, read, Job, parse}

-- room for every printout: a job file has at most 1,258 marks
abbrev pub most_printed : ℕ
most_printed = 72704

unfoldable pub pair_lines : List Entry → List ℕ
pair_lines [] = []
pair_lines (p ∷ ps) = pair_line (u_of p.choice) (v_of p.choice) p.left (end_of p.choice) ++ pair_lines ps

-- a refusal is the last line
unfoldable pub last_line : RowEnd → List ℕ
last_line (Placed left) = []
last_line (Refusal number index left) = refused_line number index

unfoldable pub row_lines : Rowed → List ℕ
row_lines r = pair_lines r.pairs ++ last_line r.ended

-- with no first hint and no periods
abbrev pub search_terms : Float → Terms
search_terms tolerance = record { hint = Nothing; tolerance = tolerance; u = Free; v = Free }

unfoldable pub job_lines : Job → List ℕ
job_lines job =
    marks_line (length job.marks)
    ++ row_lines (rowed job.surface job.marks (search_terms job.terms.tolerance) job.terms.budget)

unfoldable pub printed : Read Job → List ℕ
printed malformed = refused_line 12 0
printed (read job rest) = job_lines job

unfoldable pub printout : List ℕ → List ℕ
printout bytes = printed (parse bytes)
