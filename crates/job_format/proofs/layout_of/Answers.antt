-- `job_format::layout_of` meets its contract: each test that fails is a piece that is malformed. Assumes nothing.
use mathlib.Core.Path.{◌∙◌}
use native.Mathlib.Omega.{arith}
use Rattle.job_format.specs.Offsets.{told}
use Rattle.job_format.proofs.Steps.{no_header, no-surface, wrong-flags, past-header}
use Rattle.job_format.proofs.layout_of.Goals as goal

pub returns-then-bytes-lt-HEADER_SIZE : goal.returns-then-bytes-lt-HEADER_SIZE
unfolding told
returns-then-bytes-lt-HEADER_SIZE c = record { bytes_value = no_header c.args.bytes.now (omega arith) c.if-bytes-lt-HEADER_SIZE.true; laid = tt }

pub returns-then-not-is_mark : goal.returns-then-not-is_mark
unfolding told
returns-then-not-is_mark c = record { bytes_value = no-surface c.args.bytes.now (omega arith) c.if-bytes-lt-HEADER_SIZE.false c.is_mark.result c.is_mark.ensures c.if-not-is_mark.true; laid = tt }

pub returns-then-bytes-gt7 : goal.returns-then-bytes-gt7
unfolding told
returns-then-bytes-gt7 c = record { bytes_value = wrong-flags c.args.bytes.now (omega arith) c.if-bytes-lt-HEADER_SIZE.false c.is_mark.result c.is_mark.ensures c.if-not-is_mark.false (omega arith); laid = tt }

pub returns : goal.returns
returns c =
    record {
      bytes_value = past-header c.args.bytes.now (omega arith) c.if-bytes-lt-HEADER_SIZE.false c.is_mark.result c.is_mark.ensures c.if-not-is_mark.false _ c.header_of.ensures.0 ∙ c.after_header.ensures.bytes_value;
      laid = c.after_header.ensures.laid;
    }
