-- `job_lines::put_refusal` meets its contract: its five texts one after another. Assumes nothing.
use native.Mathlib.Omega.{arith}
use Rattle.digits.specs.Text.{ascii}
use Rattle.digits.specs.TextLaws.{put_then}
use Rattle.job_lines.specs.Lines.{refused_line}
use Rattle.job_lines.proofs.put_refusal.Goals as goal

pub returns : goal.returns
unfolding refused_line ascii
returns c =
    record {
      put =
          put_then c.put-after_word.ensures
          (put_then c.put_decimal-after_number.ensures.put
          (put_then c.put-before_index.ensures (put_then c.put_decimal-after_index.ensures.put c.put.ensures)));
      upper_bound = omega (arith, c.put-after_word.ensures.next-is);
    }
