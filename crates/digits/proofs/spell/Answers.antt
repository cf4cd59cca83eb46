-- `digits::spell` meets its contract. The invariant: all digits put are those that are left, put into the buffer as it is. Assumes nothing.
use mathlib.Core.Path.{sym, ap, ◌∙◌}
use Prim.Native.Nat.{ℕ, ◌+◌, ◌-◌, ◌/◌}
use native.Mathlib.Nat.{mod-lt}
use native.Mathlib.Omega.{arith}
use lib.ListN.{set}
use Rattle.digits.specs.Text.{digits, written}
use Rattle.digits.proofs.Steps.{spell-go, spell-over}
use borrow.Author.Rules.{rules}
use Rattle.digits.proofs.spell.Goals as goal

pub digit-requires : goal.digit-requires
digit-requires c = omega (arith, mod-lt c.loop-i.rest {m = c.args.base} (omega arith))

pub loop-i-preserved : goal.loop-i-preserved
loop-i-preserved c =
    let l = c.loop-i in
    let a = c.args in (
      search rules,
      search rules,
      l.invariant.2 ∙ spell-go a.at a.base l.out l.i l.rest (omega arith) (omega arith)
          ∙ ap (λ (d : ℕ). written a.at (digits a.base (l.i - 1) (l.rest / a.base)) (set l.out (a.at + (l.i - 1)) d)) (sym c.digit.ensures),
    )

pub returns : goal.returns
returns c =
    let l = c.loop-i in
    let a = c.args in
    sym (l.invariant.2 ∙ spell-over a.at a.base l.out l.i l.rest (omega arith))
