use Rattle.lent.specs.FitLaws.{quote-room}
use Rattle.placing.specs.Boundary.{quotes}
use Rattle.placing.proofs.Steps.{shape-read, quoted-by, quote-unfit, quote-fits}
use Rattle.placing.proofs.placing_quote.Goals as goal

pub returns-then-not-fits_quote : goal.returns-then-not-fits_quote
unfolding quotes
returns-then-not-fits_quote c = quote-unfit _ _ c.fits_quote.ensures (c.if-not-fits_quote.true)

pub lay_quote-requires : goal.lay_quote-requires
lay_quote-requires c = let el = c in quote-room _ _ _ _ el.fits_quote.ensures (el.if-not-fits_quote.false)

pub returns : goal.returns
unfolding quotes
returns c =
    let to = c in
    let sh = to in
    let at = sh in
    quote-fits _ _ at.fits_quote.ensures (at.if-not-fits_quote.false) (quoted-by _ _ _ (shape-read _ _ _ _ _ sh.shape_of-shape.ensures sh.window_from.ensures) to.quote-quotation.ensures) c.lay_quote.ensures
