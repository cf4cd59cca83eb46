-- A file that is too long. Assumes nothing.
use Rattle.std.specs.Prelude.{◌≡◌, List, ℕ, ◌<◌, length}
use Rattle.std.proofs.lemmas.Bool.{lt-leb}
use Rattle.job_format.specs.Format.{most_bytes, malformed, parse}

pub too_long : (bytes : List ℕ) → most_bytes < length bytes → parse bytes ≡ malformed
unfolding parse
too_long bytes h = simp (lt-leb (length bytes) most_bytes h)
