-- `job_lines::put_pair` meets its contract: its six texts one after another. Assumes nothing.
use native.Mathlib.Omega.{arith}
use Rattle.digits.specs.Text.{ascii}
use Rattle.digits.specs.TextLaws.{put_then}
use Rattle.job_lines.specs.Lines.{pair_line}
use Rattle.job_lines.proofs.put_pair.Goals as goal

pub float_to_bits-u : goal.float_to_bits-u
float_to_bits-u c = simp c.requires.1 tt

pub float_to_bits-v : goal.float_to_bits-v
float_to_bits-v c = simp c.requires.2 tt

pub returns : goal.returns
unfolding pair_line ascii
returns c =
    record {
      put =
          put_then c.put_hex-after_u.ensures.put
          (put_then c.put-before_v.ensures
          (put_then c.put_hex-after_v.ensures.put
          (put_then c.put-before_left.ensures (put_then c.put_decimal-after_left.ensures.put c.put_end.ensures.put))));
      upper_bound = omega (arith, c.put_hex-after_u.ensures.value, c.put-before_v.ensures.next-is, c.put_end.ensures.value);
    }
