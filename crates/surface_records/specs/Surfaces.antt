-- A surface that a record holds. Definitions only.
use Rattle.std.specs.Prelude.{cond, List, ℕ, ◌+◌, ◌-◌, eqb, get_or, Float}
use Rattle.std.specs.Float.{binary64}
use Rattle.std.specs.Float.Ieee.{of_bits}
use Rattle.cursor.specs.declared.Cursor.{Cursor}
use Rattle.cursor.specs.declared.Part.{Part}
use Rattle.cursor.specs.Cursors.{Within, word_at, numbers_at}
use Rattle.domain.specs.declared.Window.{Window}
use Rattle.domain.specs.declared.Window.TheVariants as Windows
use Rattle.domain.specs.Flags.{shape_of}
use Rattle.surface_records.specs.declared.Lent.{Lent}

abbrev pub float_at : List ℕ → ℕ → Float
float_at ws k = of_bits binary64 (get_or ws k 0)

-- four numbers are a window, and none or another count is the whole domain
unfoldable pub window_by : List ℕ → Part → Window
window_by ws p =
    let i = p.from in
    cond (eqb (p.to - i) 4) (Windows.Within (float_at ws i) (float_at ws (i + 1)) (float_at ws (i + 2)) (float_at ws (i + 3))) Windows.Whole

-- both degrees, both counts of controls, the flags; then five lists of numbers, each after its count, the last of them the window
unfoldable pub surface_at : List ℕ → Cursor → Lent
surface_at ws c =
    let du = word_at ws c in
    let dv = word_at ws du.next in
    let nu = word_at ws dv.next in
    let nv = word_at ws nu.next in
    let flags = word_at ws nv.next in
    let ku = numbers_at ws flags.next in
    let kv = numbers_at ws ku.next in
    let controls = numbers_at ws kv.next in
    let weights = numbers_at ws controls.next in
    let window = numbers_at ws weights.next in
    record {
      shape = shape_of du.value dv.value nu.value nv.value flags.value (window_by ws window);
      ku = ku;
      kv = kv;
      controls = controls;
      weights = weights;
      window = window;
    }

-- each part of it lies in a record of `size` words
pub record Inside (size : ℕ) (l : Lent) : Type 0 where
  pub ku : Within size l.ku
  pub kv : Within size l.kv
  pub controls : Within size l.controls
  pub weights : Within size l.weights
  pub window : Within size l.window
