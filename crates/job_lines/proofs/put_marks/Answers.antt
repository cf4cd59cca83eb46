-- `job_lines::put_marks` meets its contract: its three texts one after another. Assumes nothing.
use native.Mathlib.Omega.{arith}
use Rattle.digits.specs.Text.{ascii}
use Rattle.digits.specs.TextLaws.{put_then}
use Rattle.job_lines.specs.Lines.{marks_line}
use Rattle.job_lines.proofs.put_marks.Goals as goal

pub returns : goal.returns
unfolding marks_line ascii
returns c =
    record {
      put = put_then c.put-after_word.ensures (put_then c.put_decimal-after_count.ensures.put c.put.ensures);
      upper_bound = omega arith;
    }
