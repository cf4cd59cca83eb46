-- What each test of the code says of a piece. Assumes nothing.
use mathlib.Core.Path.{◌≡◌, refl, ap, ◌∙◌}
use mathlib.Core.Bool.{Bool, true, false, cond, ◌&&◌}
use mathlib.Core.List.{List, [], ◌∷◌}
use Prim.Native.Nat.{ℕ, suc, ◌+◌, ◌/◌, ◌%◌, ◌≤◌, ◌<◌}
use native.Mathlib.Nat.{add-zero}
use native.Mathlib.Numerals.{add-one}
use native.Mathlib.Omega.{arith}
use lib.Dec.{leb, eqb}
use lib.ListN.{length, drop, get_or}
use lib.Seq.{drop-cons}
use borrow.Author.Tests.{le-leb, lt-leb}
use Rattle.words.specs.Words.{little_endian}
use Rattle.domain.specs.declared.Window.TheVariants.{Whole}
use Rattle.domain.specs.Flags.{shape_of}
use Rattle.job_format.specs.Format.{header_size, Read, malformed, read, ◌then◌, mark, flags, counts}
use Rattle.job_format.specs.declared.Header.{Header}
use Rattle.job_format.specs.OffsetLaws.{number_at}

both : {A : Type 0} (x y : Bool) (r : Read A) → cond x (cond y r malformed) malformed ≡ cond (x && y) r malformed
both true y r = refl
both false y r = refl

module _ (bytes : List ℕ) where
  pub mark-at : (a b at : ℕ) → at + 2 ≤ length bytes
      → mark (a ∷ b ∷ []) (drop at bytes) ≡ cond (eqb (get_or bytes at 0) a && eqb (get_or bytes (at + 1) 0) b) (read tt (drop (at + 2) bytes)) malformed
  unfolding mark
  mark-at a b at h =
      let d : drop at bytes ≡ get_or bytes at 0 ∷ drop (at + 1) bytes = rw add-one (drop-cons bytes at 0 (omega arith)) in
      let e : suc (at + 1) ≡ at + 2 = omega arith in
      let f : drop (at + 1) bytes ≡ get_or bytes (at + 1) 0 ∷ drop (at + 2) bytes =
      drop-cons bytes (at + 1) 0 (omega arith) ∙ ap (λ (k : ℕ). get_or bytes (at + 1) 0 ∷ drop k bytes) e in
      rw (d, f) (both (eqb (get_or bytes at 0) a) (eqb (get_or bytes (at + 1) 0) b) (read tt (drop (at + 2) bytes)))

  one_byte : (at : ℕ) → little_endian 1 bytes at ≡ get_or bytes at 0
  unfolding little_endian
  one_byte at = simp add-zero (omega arith)

  abbrev pub header_at : Header
  header_at = record { shape = shape_of (get_or bytes 2 0) (get_or bytes 3 0) (little_endian 2 bytes 4) (little_endian 2 bytes 6) (get_or bytes 8 0) Whole; windowed = eqb (get_or bytes 8 0 / 4 % 2) 1 }

  module _ (h : header_size ≤ length bytes) where
    up-to-flags : (t : Bool) → leb (get_or bytes 8 0) 7 ≡ t
        → counts (drop 2 bytes) ≡ cond t (read header_at (drop header_size bytes)) malformed
    unfolding counts flags ◌then◌
    up-to-flags true e = simp (number_at bytes 1 2 (omega arith), number_at bytes 1 3 (omega arith), number_at bytes 2 4 (omega arith), number_at bytes 2 6 (omega arith), number_at bytes 1 8 (omega arith), one_byte, e)
    up-to-flags false e = simp (number_at bytes 1 2 (omega arith), number_at bytes 1 3 (omega arith), number_at bytes 2 4 (omega arith), number_at bytes 2 6 (omega arith), number_at bytes 1 8 (omega arith), one_byte, e)

    pub counts-at : get_or bytes 8 0 ≤ 7 → counts (drop 2 bytes) ≡ read header_at (drop header_size bytes)
    counts-at f = up-to-flags true (le-leb (get_or bytes 8 0) 7 f)

    pub other-flags : 7 < get_or bytes 8 0 → counts (drop 2 bytes) ≡ malformed
    other-flags f = up-to-flags false (lt-leb (get_or bytes 8 0) 7 f)
