-- A job file as document 01 lays it out, read from its first byte to its last. Each piece takes its bytes from the front of those that are left. Definitions only.
use Rattle.std.specs.Prelude.{Bool, true, false, cond, List, [], ◌∷◌, ℕ, zero, suc, ◌+◌, ◌*◌, ◌/◌, ◌%◌, leb, eqb, length, drop, Float}
use Rattle.std.specs.Float.{binary64}
use Rattle.std.specs.Float.Ieee.{of_bits}
use Rattle.words.specs.Words.{little_endian}
use Rattle.digits.specs.Text.{ascii}
use Rattle.vector3.specs.declared.Vector3.{Vector3}
use Rattle.domain.specs.declared.Counts.{Counts}
use Rattle.domain.specs.declared.Window.{Window}
use Rattle.domain.specs.declared.Window.TheVariants.{Whole, Within}
use Rattle.domain.specs.declared.Shape.{Shape}
use Rattle.domain.specs.Flags.{shape_of}
use Rattle.surface.specs.Surface.{Surface, surface}
use Rattle.job_format.specs.declared.Header.{Header}

-- what a piece holds, with the bytes after it
pub data Read (A : Type 0) : Type 0 where
  malformed : Read A
  read : A → List ℕ → Read A

infixr 10 ◌then◌
-- a piece and what follows it
unfoldable pub ◌then◌ : {A B : Type 0} → Read A → (A → List ℕ → Read B) → Read B
malformed then f = malformed
(read a rest) then f = f a rest

-- ---- sizes, in bytes: of a file, of what stands before a surface's numbers, of a window, and of the two other records

abbrev pub most_bytes : ℕ
most_bytes = 32768

abbrev pub header_size : ℕ
header_size = 9

abbrev pub window_size : ℕ
window_size = 32

abbrev pub terms_size : ℕ
terms_size = 18

abbrev pub mark_size : ℕ
mark_size = 26

-- ---- the pieces

-- a record's mark
unfoldable pub mark : List ℕ → List ℕ → Read (Unit {0})
mark [] bytes = read tt bytes
mark (m ∷ ms) [] = malformed
mark (m ∷ ms) (b ∷ bytes) = cond (eqb b m) (mark ms bytes) malformed

-- a number of k bytes, the lowest first
unfoldable pub number : ℕ → List ℕ → Read ℕ
number k bytes = cond (leb k (length bytes)) (read (little_endian k bytes 0) (drop k bytes)) malformed

unfoldable pub float : List ℕ → Read Float
float bytes = number 8 bytes then λ w rest. read (of_bits binary64 w) rest

unfoldable pub floats : ℕ → List ℕ → Read (List Float)
floats zero bytes = read [] bytes
floats (suc n) bytes = float bytes then λ x rest. floats n rest then λ xs after. read (x ∷ xs) after

-- 1 for u periodic, 2 for v, 4 for a window after the weights, sum at most 7
unfoldable pub flags : List ℕ → Read ℕ
flags bytes = number 1 bytes then λ f rest. cond (leb f 7) (read f rest) malformed

-- ---- the records

unfoldable pub counts : List ℕ → Read Header
counts bytes =
    number 1 bytes then λ du rest.
    number 1 rest then λ dv rest.
    number 2 rest then λ nu rest.
    number 2 rest then λ nv rest.
    flags rest then λ f rest.
    read (record { shape = shape_of du dv nu nv f Whole; windowed = eqb (f / 4 % 2) 1 }) rest

-- what stands before the surface's numbers
unfoldable pub header : List ℕ → Read Header
header bytes = mark (ascii "SF") bytes then λ m. counts

abbrev pub knots : Counts → ℕ
knots n = n.controls + n.degree + 1

abbrev pub controls : Shape → ℕ
controls shape = shape.u.controls * shape.v.controls

-- the lowest and the highest u, then those of v; no byte where there is none
unfoldable pub window : Bool → List ℕ → Read Window
window false bytes = read Whole bytes
window true bytes =
    float bytes then λ a rest.
    float rest then λ b rest.
    float rest then λ c rest.
    float rest then λ d rest.
    read (Within a b c d) rest

abbrev pub with_window : Shape → Window → Shape
with_window shape w = record { u = shape.u; v = shape.v; window = w }

-- three coordinates a control
unfoldable pub surface_numbers : Header → List ℕ → Read Surface
surface_numbers h bytes =
    floats (knots h.shape.u) bytes then λ ku rest.
    floats (knots h.shape.v) rest then λ kv rest.
    floats (3 * controls h.shape) rest then λ cs rest.
    floats (controls h.shape) rest then λ ws rest.
    window h.windowed rest then λ w rest.
    read (surface (with_window h.shape w) ku kv cs ws) rest

pub record Limits : Type 0 where
  pub tolerance : Float
  pub budget : ℕ

unfoldable pub terms : List ℕ → Read Limits
terms bytes =
    float bytes then λ x rest.
    number 8 rest then λ n rest.
    read (record { tolerance = x; budget = n }) rest

unfoldable pub terms_record : List ℕ → Read Limits
terms_record bytes = mark (ascii "TL") bytes then λ m. terms

unfoldable pub point : List ℕ → Read Vector3
point bytes =
    float bytes then λ x rest.
    float rest then λ y rest.
    float rest then λ z rest.
    read (record { x = x; y = y; z = z }) rest

unfoldable pub mark_record : List ℕ → Read Vector3
mark_record bytes = mark (ascii "MK") bytes then λ m. point

unfoldable pub mark_records : ℕ → List ℕ → Read (List Vector3)
mark_records zero bytes = read [] bytes
mark_records (suc n) bytes = mark_record bytes then λ p rest. mark_records n rest then λ ps after. read (p ∷ ps) after

-- ---- the file

pub record Job : Type 0 where
  pub surface : Surface
  pub terms : Limits
  pub marks : List Vector3

-- no bytes left over
unfoldable pub ended : {A : Type 0} → A → List ℕ → Read A
ended a [] = read a []
ended a (b ∷ bytes) = malformed

-- as many marks as there is room for
unfoldable pub to_the_end : List ℕ → Read (List Vector3)
to_the_end bytes = mark_records (length bytes / mark_size) bytes then ended

unfoldable pub after_surface : Surface → List ℕ → Read Job
after_surface s bytes =
    terms_record bytes then λ t rest.
    to_the_end rest then λ ps rest.
    read (record { surface = s; terms = t; marks = ps }) rest

unfoldable pub after_header : Header → List ℕ → Read Job
after_header h bytes = surface_numbers h bytes then after_surface

unfoldable pub parse : List ℕ → Read Job
parse bytes = cond (leb (length bytes) most_bytes) (header bytes then after_header) malformed
