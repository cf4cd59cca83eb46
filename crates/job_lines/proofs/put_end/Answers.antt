-- `job_lines::put_end` meets its contract: its three texts one after another. Assumes nothing.
use mathlib.Core.Path.{◌≡◌}
use Prim.Native.Nat.{ℕ, ◌+◌, ◌<◌}
use native.Mathlib.Omega.{arith}
use borrow.Author.Tests.{lt-ltb}
use Rattle.digits.specs.Text.{ascii, digit}
use Rattle.digits.specs.TextLaws.{put_then}
use Rattle.job_lines.specs.Lines.{end_text}
use Rattle.job_lines.proofs.put_end.Goals as goal

digit-is : (d : ℕ) → d < 10 → digit d ≡ 48 + d
unfolding digit
digit-is d h = simp (lt-ltb d 10 h)

pub returns : goal.returns
unfolding end_text ascii
returns c =
    record {
      put =
          rw (digit-is c.args.end c.requires.1)
          (put_then c.put-after_space.ensures (put_then c.put-after_digit.ensures c.put.ensures));
      value = omega (arith, c.put-after_space.ensures.next-is, c.put-after_digit.ensures.next-is, c.put.ensures.next-is);
    }
