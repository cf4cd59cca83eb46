-- The two arms are those of the definition.
use mathlib.Core.Path.{◌≡◌, ◌∙◌}
use mathlib.Core.Bool.{true, false}
use mathlib.Core.List.{List}
use Prim.Native.Nat.{ℕ, ◌+◌}
use lib.ListN.{get_or}
use lib.Ieee.{Float, nan, eq}
use Rattle.float64.specs.Operators.{◌⊖◌, ◌⊗◌, ◌⊘◌, 0·}
use Rattle.basis.specs.Rows.{absent, term_at}
use Rattle.basis.proofs.term_at.Goals as goal

-- the test of the denominator l
module _ (ks : List Float) (i d : ℕ) (n u x y : Float) where
  abbrev s : Float
  s = get_or ks i nan

  abbrev t : Float
  t = get_or ks (i + d) nan

  abbrev l : Float
  l = t ⊖ s

  flat : eq l 0· ≡ true → absent ≡ term_at ks i d n u x y
  unfolding term_at
  flat h = simp h

  steep : eq l 0· ≡ false
      → record { present = true; rising = (u ⊖ s) ⊘ l ⊗ x; falling = (t ⊖ u) ⊘ l ⊗ x; first = n ⊗ (x ⊘ l); second = n ⊗ (y ⊘ l) } ≡ term_at ks i d n u x y
  unfolding term_at
  steep h = simp h

pub returns-then-l : goal.returns-then-l
returns-then-l c =
    let a = c.args in
    c.absent.ensures ∙ flat a.knots.now a.i a.d a.n a.u a.value a.first c.if-l.true

pub returns : goal.returns
returns c =
    let a = c.args in
    steep a.knots.now a.i a.d a.n a.u a.value a.first c.if-l.false
