-- `Cursor::take` meets its contract: each test that fails leaves nothing to take. Assumes nothing.
use mathlib.Core.Path.{◌≡◌, refl, ◌∙◌}
use mathlib.Core.Bool.{true, false, ◌&&◌}
use Prim.Native.Nat.{ℕ, ◌+◌, ◌≤◌, ◌<◌}
use native.Mathlib.Omega.{arith}
use lib.Dec.{leb}
use lib.ListN.{length}
use borrow.Author.Tests.{not-true, not-false, le-leb, lt-leb}
use Rattle.cursor.specs.declared.Cursor.{Cursor}
use Rattle.cursor.specs.declared.Part.{Part}
use Rattle.cursor.specs.Cursors.{Within, nothing, taken}
use Rattle.cursor.proofs.Cursor.take.Goals as goal

module _ (n size : ℕ) (c : Cursor) where
  none : (p : Part) → p ≡ nothing → (c.sound && leb (c.at + n) size) ≡ false → (p ≡ taken n size c) × Within size p
  unfolding taken
  none p e t = (e ∙ simp t, rw e (record { ordered = omega arith; inside = omega arith; after = refl }))

  unsound : (p : Part) → p ≡ nothing → c.sound ≡ false → (p ≡ taken n size c) × Within size p
  unsound p e s = none p e (simp s)

  beyond : (p : Part) → p ≡ nothing → c.sound ≡ true → size < c.at + n → (p ≡ taken n size c) × Within size p
  beyond p e s h = none p e (simp (s, lt-leb _ _ h))

  held : c.sound ≡ true → c.at + n ≤ size → ◌≡◌ {A = Part} (record { from = c.at; to = c.at + n; next = record { at = c.at + n; sound = true } }) (taken n size c)
  unfolding taken
  held s h = simp (s, le-leb _ _ h)

pub returns-then-not-self : goal.returns-then-not-self
returns-then-not-self c =
    let e = unsound c.args.count (length c.args.words.now) c.args.self _ c.nothing.ensures (not-true _ c.if-not-self.true) in
    record { value = e.0; within = e.1 }

pub returns-then-words-at : goal.returns-then-words-at
returns-then-words-at c =
    let e = beyond c.args.count (length c.args.words.now) c.args.self _ c.nothing-then-words-at.ensures (not-false _ c.if-not-self.false) (omega arith) in
    record { value = e.0; within = e.1 }

pub returns-then-words-at-2 : goal.returns-then-words-at-2
returns-then-words-at-2 c =
    let e = beyond c.args.count (length c.args.words.now) c.args.self _ c.nothing-then-words-at-2.ensures (not-false _ c.if-not-self.false) (omega arith) in
    record { value = e.0; within = e.1 }

pub returns : goal.returns
returns c =
    record {
      value = held _ _ _ (not-false _ c.if-not-self.false) (omega arith);
      within = record { ordered = omega arith; inside = omega arith; after = refl };
    }
