-- By the flag.
use mathlib.Core.Path.{sym}
use Rattle.domain.specs.WindowLaws.{window-flagged, window-flagless}
use Rattle.domain.proofs.windows.window_on.Goals as goal

pub returns-then-i : goal.returns-then-i
returns-then-i c = sym (window-flagged _ _ _ c.if-i.true)

pub returns : goal.returns
returns c = sym (window-flagless _ _ _ c.if-i.false)
