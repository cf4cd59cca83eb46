-- What a read may answer. Definitions only.
use Rattle.std.specs.Prelude.{ℕ, zero, suc, ◌+◌, ◌≤◌, Option, Some, None, Result, Ok, Err}
use Rattle.std.specs.IoError.{error_kind}
use Rattle.std.specs.declared.io.Error.{Error}
use Rattle.std.specs.declared.io.ErrorKind.{ErrorKind}
use Rattle.std.specs.declared.io.ErrorKind.TheVariants.{Interrupted}

-- the bytes that were there are, and no more than there is room for
abbrev pub Onward : ℕ → ℕ → Result (Option ℕ) Error → Type 0
Onward have size (Ok (Some n)) = (have ≤ n) × (n ≤ size)
Onward have size (Ok None) = Unit
Onward have size (Err e) = Unit

-- what an error of this kind leaves: an interrupted read is no failure, and has read nothing
unfoldable pub after_error : ℕ → Error → ErrorKind → Result (Option ℕ) Error
after_error have e Interrupted = Ok (Some have)
after_error have e _ = Err e

-- so many bytes more, after those that are there; no more is the input's end
unfoldable pub after_read : (have : ℕ) → Result ℕ Error → Result (Option ℕ) Error
after_read have (Ok zero) = Ok None
after_read have (Ok (suc k)) = Ok (Some (have + suc k))
after_read have (Err e) = after_error have e (error_kind e)
