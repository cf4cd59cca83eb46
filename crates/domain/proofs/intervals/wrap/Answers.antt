-- Each return is a law of `wrapped`.
use mathlib.Core.Path.{◌≡◌, sym, ◌∙◌}
use mathlib.Core.Bool.{false, ◌&&◌}
use lib.Ieee.{le}
use borrow.Author.Tests.{not-true, not-false}
use Rattle.domain.specs.WrapLaws.{wrap-flagless, wrap-not-finite, wrap-inside, wrap-outside}
use Rattle.domain.proofs.intervals.wrap.Goals as goal
use Rattle.domain.proofs.intervals.wrap.Goals.{else-low-t-via-then-low-t+else-t-high, else-low-t-via-else-low-t}

pub returns-then-not-i : goal.returns-then-not-i
returns-then-not-i c = sym (wrap-flagless _ _ _ _ (not-true _ c.if-not-i.true))

pub returns-then-not-is_finite : goal.returns-then-not-is_finite
returns-then-not-is_finite c = sym (wrap-not-finite _ _ _ _ (sym c.is_finite.ensures ∙ c.if-not-is_finite.true))

pub returns-then-t-high : goal.returns-then-t-high
returns-then-t-high c = sym (wrap-inside _ _ _ _ c.if-low-t.true c.if-t-high.true)

pub returns : goal.returns
returns c =
    let outside : (let a = c.args in (le a.i.low a.t && le a.t a.i.high) ≡ false) = elim c.else-low-t.branch [
      | else-low-t-via-then-low-t+else-t-high w ↦ simp (w.if-low-t.true, w.if-t-high.false)
      | else-low-t-via-else-low-t w ↦ simp w.if-low-t.false
    ] in
    rw c.rem_euclid.ensures at c.clamp.ensures
    ∙ sym (wrap-outside _ _ _ _ (not-false _ c.if-not-i.false) (sym c.is_finite.ensures ∙ c.if-not-is_finite.false) outside)
