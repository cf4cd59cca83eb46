-- Where the pieces of a well-formed file stand, for contracts of code that reads by index. The format is `parse` of `Format.antt` alone: each piece read at its place is what is named here (`OffsetLaws.antt`), and so is a job that is parsed (`parsed-stands` of `ParseLaws.antt`). Definitions only.
use Rattle.std.specs.Prelude.{◌≡◌, Bool, true, false, List, [], ◌∷◌, ℕ, zero, suc, ◌+◌, ◌*◌, ◌≤◌, ◌<◌, Float}
use Rattle.std.specs.Float.{binary64}
use Rattle.std.specs.Float.Ieee.{of_bits}
use Rattle.words.specs.Words.{little_endian}
use Rattle.vector3.specs.declared.Vector3.{Vector3}
use Rattle.domain.specs.declared.Window.{Window}
use Rattle.domain.specs.declared.Window.TheVariants.{Whole, Within}
use Rattle.domain.specs.declared.Shape.{Shape}
use Rattle.surface.specs.Surface.{Surface, surface}
use Rattle.job_format.specs.Format.{most_bytes, header_size, window_size, terms_size, mark_size, Read, malformed, read, Limits, Job, knots, controls, with_window}
use Rattle.job_format.specs.declared.Header.{Header}
use Rattle.job_format.specs.declared.Layout.{Layout}
use Rattle.job_format.specs.declared.Layout.TheVariants.{Malformed, WellFormed}

unfoldable pub float_at : List ℕ → ℕ → Float
float_at bytes at = of_bits binary64 (little_endian 8 bytes at)

unfoldable pub floats_at : ℕ → List ℕ → ℕ → List Float
floats_at zero bytes at = []
floats_at (suc n) bytes at = float_at bytes at ∷ floats_at n bytes (at + 8)

-- how many numbers a surface has before its window's
abbrev pub count : Shape → ℕ
count shape = knots shape.u + knots shape.v + 4 * controls shape

abbrev pub size_of : Window → ℕ
size_of Whole = 0
size_of (Within a b c d) = window_size

-- where a surface ends
abbrev pub after : Shape → ℕ
after shape = header_size + 8 * count shape + size_of shape.window

unfoldable pub window_at : Bool → List ℕ → ℕ → Window
window_at false bytes at = Whole
window_at true bytes at = Within (float_at bytes at) (float_at bytes (at + 8)) (float_at bytes (at + 16)) (float_at bytes (at + 24))

-- a header's shape with the window that follows the weights
abbrev pub shape_at : Header → List ℕ → Shape
shape_at h bytes = with_window h.shape (window_at h.windowed bytes (header_size + 8 * count h.shape))

unfoldable pub surface_at : Shape → List ℕ → Surface
surface_at shape bytes =
    let u = knots shape.u in
    let v = knots shape.v in
    let n = controls shape in
    surface shape (floats_at u bytes header_size) (floats_at v bytes (header_size + 8 * u)) (floats_at (3 * n) bytes (header_size + 8 * u + 8 * v)) (floats_at n bytes (header_size + 8 * u + 8 * v + 8 * (3 * n)))

-- the index of a record is that of its mark
unfoldable pub terms_at : List ℕ → ℕ → Limits
terms_at bytes at = record { tolerance = float_at bytes (at + 2); budget = little_endian 8 bytes (at + 10) }

unfoldable pub mark_at : List ℕ → ℕ → Vector3
mark_at bytes at = record { x = float_at bytes (at + 2); y = float_at bytes (at + 10); z = float_at bytes (at + 18) }

unfoldable pub marks_at : ℕ → List ℕ → ℕ → List Vector3
marks_at zero bytes at = []
marks_at (suc n) bytes at = mark_at bytes at ∷ marks_at n bytes (at + mark_size)

unfoldable pub job_at : Shape → ℕ → List ℕ → Job
job_at shape n bytes =
    record { surface = surface_at shape bytes; terms = terms_at bytes (after shape); marks = marks_at n bytes (after shape + terms_size) }

-- what a layout says of a file's bytes
unfoldable pub told : Layout → List ℕ → Read Job
told Malformed bytes = malformed
told (WellFormed shape n) bytes = read (job_at shape n bytes) []

-- a well-formed file of `size` bytes
pub record Fits (size : ℕ) (shape : Shape) (n : ℕ) : Type 0 where
  pub few : size ≤ most_bytes
  pub whole : size ≡ after shape + terms_size + mark_size * n

-- counts as a header holds them
pub record Small (shape : Shape) : Type 0 where
  pub degree-u : shape.u.degree < 256
  pub degree-v : shape.v.degree < 256
  pub controls-u : shape.u.controls < 65536
  pub controls-v : shape.v.controls < 65536

abbrev pub Laid : ℕ → Layout → Type 0
Laid size Malformed = Unit
Laid size (WellFormed shape n) = Fits size shape n
