-- Refused by the first check that refuses; else the grid, and what the runs add.
use mathlib.Core.Path.{sym, ◌∙◌}
use Rattle.surface.specs.Surface.{Surface, bare}
use Rattle.quotation.proofs.Steps.{large, refused, answered}
use Rattle.quotation.proofs.quote.Goals as goal

pub returns-then-too_large : goal.returns-then-too_large
returns-then-too_large c =
    let lent : Surface = let a = c.args in bare a.shape a.ku.now a.kv.now in
    large lent _ (sym c.too_large.ensures ∙ c.if-too_large.true)

pub returns-then-refusal-ne0 : goal.returns-then-refusal-ne0
returns-then-refusal-ne0 c =
    let lent : Surface = let a = c.args in bare a.shape a.ku.now a.kv.now in
    let e = c in
    refused lent _ (sym e.too_large.ensures ∙ e.if-too_large.false) _ c.check_axes-refusal.ensures c.if-refusal-ne0.true

pub grid_size-grid-requires : goal.grid_size-grid-requires
grid_size-grid-requires c =
    let e = c in
    (sym e.too_large.ensures ∙ e.if-too_large.false, sym c.check_axes-refusal.ensures ∙ c.if-refusal-ne0.false)

pub returns : goal.returns
returns c =
    let lent : Surface = let a = c.args in bare a.shape a.ku.now a.kv.now in
    let g = c in
    let k = g in
    let e = k in
    answered lent _ (sym e.too_large.ensures ∙ e.if-too_large.false) (sym k.check_axes-refusal.ensures ∙ k.if-refusal-ne0.false) _ _ g.grid_size-grid.ensures.0 c.margin.ensures.0
