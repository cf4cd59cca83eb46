use mathlib.Core.Path.{◌≡◌, sym, ap, ◌∙◌}
use mathlib.Core.Bool.{true, false}
use Prim.Native.Nat.{ℕ}
use lib.ListN.{get_or}
use lib.Ieee.{nan, of_bits, div}
use Rattle.float64.specs.Operators.{◌⊕◌}
use Rattle.basis.specs.declared.Basis.{Basis}
use Rattle.basis.specs.Basis.{Sample, shown, threes}
use Rattle.timing.specs.Digest.{of_sample}
use Rattle.timing.proofs.time_basis.Goals as goal

-- by whether the basis was found
module _ (p : ℕ) (b : Basis) {s : Sample} (e : shown p b ≡ s) where
  absent : b.found ≡ false → nan ≡ of_sample s
  unfolding shown of_sample
  absent f = sym (ap of_sample (sym e) ∙ simp f)

  present : b.found ≡ true → get_or b.values 0 nan ⊕ get_or b.firsts 0 nan ⊕ get_or b.seconds 0 nan ≡ of_sample s
  unfolding shown threes of_sample
  present f = sym (ap of_sample (sym e) ∙ simp f)

pub returns-then-not-b : goal.returns-then-not-b
unfolding of_bits div
returns-then-not-b c = absent _ c.basis_on_side-b.result c.basis_on_side-b.ensures (c.if-not-b.true)

pub returns : goal.returns
returns c =
    let at = c in
    present _ at.basis_on_side-b.result at.basis_on_side-b.ensures (at.if-not-b.false)
