-- `surface_records::lent_surface` meets its contract: each part from where the one before it ends. Assumes nothing.
use mathlib.Core.Path.{◌≡◌}
use mathlib.Core.List.{List}
use Prim.Native.Nat.{ℕ}
use Rattle.cursor.specs.declared.Cursor.{Cursor}
use Rattle.cursor.specs.declared.Part.{Part}
use Rattle.cursor.specs.declared.Word.{Word}
use Rattle.cursor.specs.Cursors.{word_at, numbers_at}
use Rattle.domain.specs.declared.Window.{Window}
use Rattle.domain.specs.declared.Shape.{Shape}
use Rattle.domain.specs.Flags.{shape_of}
use Rattle.surface_records.specs.declared.Lent.{Lent}
use Rattle.surface_records.specs.Surfaces.{window_by, surface_at}
use Rattle.surface_records.proofs.lent_surface.Goals as goal

surface-is : (ws : List ℕ) (c : Cursor) {du dv nu nv flags : Word} {ku kv controls weights window : Part} {w : Window} {shape : Shape}
    → du ≡ word_at ws c → dv ≡ word_at ws du.next → nu ≡ word_at ws dv.next → nv ≡ word_at ws nu.next → flags ≡ word_at ws nv.next
    → ku ≡ numbers_at ws flags.next → kv ≡ numbers_at ws ku.next → controls ≡ numbers_at ws kv.next → weights ≡ numbers_at ws controls.next → window ≡ numbers_at ws weights.next
    → w ≡ window_by ws window → shape ≡ shape_of du.value dv.value nu.value nv.value flags.value w
    → ◌≡◌ {A = Lent} (record { shape = shape; ku = ku; kv = kv; controls = controls; weights = weights; window = window }) (surface_at ws c)
unfolding surface_at
surface-is ws c du dv nu nv flags ku kv controls weights window w shape = cc

pub returns-clause-value : goal.returns-clause-value
returns-clause-value c =
    surface-is _ _
    c.word-du.ensures.value c.word-dv.ensures.value c.word-nu.ensures.value c.word-nv.ensures.value c.word-flags.ensures.value
    c.numbers-ku.ensures.value c.numbers-kv.ensures.value c.numbers-controls.ensures.value c.numbers-weights.ensures.value c.numbers-window.ensures.value
    c.window_by.ensures c.shape_of-shape.ensures

pub returns-clause-inside : goal.returns-clause-inside
returns-clause-inside c =
    record {
      ku = c.numbers-ku.ensures.within;
      kv = c.numbers-kv.ensures.within;
      controls = c.numbers-controls.ensures.within;
      weights = c.numbers-weights.ensures.within;
      window = c.numbers-window.ensures.within;
    }
