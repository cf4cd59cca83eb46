-- `job_format::after_header` meets its contract: the surface ends with its window, if it has one. Assumes nothing.
use mathlib.Core.Path.{◌∙◌}
use borrow.Author.Tests.{not-true, not-false}
use Rattle.job_format.specs.Offsets.{told}
use Rattle.job_format.proofs.Steps.{windowless, window-cut, windowed-by}
use Rattle.job_format.proofs.after_header.Goals as goal

pub returns-then-not-header : goal.returns-then-not-header
returns-then-not-header c =
    let r = c.after_surface.ensures in
    record { bytes_value = windowless c.args.bytes.now c.requires.0 c.args.header c.requires.3 (not-true _ c.if-not-header.true) ∙ r.bytes_value; laid = r.laid }

pub returns-then-bytes-at : goal.returns-then-bytes-at
unfolding told
returns-then-bytes-at c =
    record { bytes_value = window-cut c.args.bytes.now c.requires.0 c.args.header c.requires.3 c.surface_end-at.result c.surface_end-at.ensures.0 (not-false _ c.if-not-header.false) c.if-bytes-at.true; laid = tt }

pub returns : goal.returns
returns c =
    let r = c.after_surface-2.ensures in
    record { bytes_value = windowed-by c.args.bytes.now c.requires.0 c.args.header c.requires.3 c.surface_end-at.result c.surface_end-at.ensures.0 (not-false _ c.if-not-header.false) c.window_at-window.result c.window_at-window.ensures ∙ r.bytes_value; laid = r.laid }
