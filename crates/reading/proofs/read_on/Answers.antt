-- What `after` ensures is onward: the bytes that came have room past those that are there.
use Rattle.std.proofs.Common.{◌+◌, ◌≤◌, ℕ, zero, suc, Result, Ok, Err, IfOk, List, length, arith}
use Rattle.std.specs.Counts.{IsPrefixLen}
use Rattle.std.specs.IoError.{error_kind}
use Rattle.std.specs.declared.io.Error.{Error}
use Rattle.std.specs.declared.io.ErrorKind.{ErrorKind}
use Rattle.std.specs.declared.io.ErrorKind.TheVariants.{Interrupted}
use Rattle.reading.specs.Reads.{Onward, after_error, after_read}
use Rattle.reading.proofs.read_on.Goals as goal

error-onward : (have size : ℕ) (e : Error) (kind : ErrorKind) → have ≤ size → Onward have size (after_error have e kind)
unfolding after_error
error-onward have size e Interrupted h = (omega arith, h)
error-onward have size e _ h = tt

onward : (have size : ℕ) (buf : List ℕ) (read : Result ℕ Error) → have + length buf ≤ size → IfOk read (λ more. IsPrefixLen more buf) → Onward have size (after_read have read)
unfolding after_read
onward have size buf (Ok zero) h b = tt
onward have size buf (Ok (suc k)) h b = (omega arith, omega arith)
onward have size buf (Err e) h b = error-onward have size e (error_kind e) (omega arith)

pub returns-clause-onward : goal.returns-clause-onward
returns-clause-onward g c = rw c.after.ensures (onward _ _ _ _ (omega arith) c.read.ensures.bound)
