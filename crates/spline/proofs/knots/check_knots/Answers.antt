-- A branch for each part of the definition: the degree, the counts, the knots one by one, the domain.
use mathlib.Core.Path.{sym, ◌∙◌}
use native.Mathlib.Omega.{arith}
use Rattle.spline.specs.KnotLaws.{counts-hold}
use Rattle.spline.proofs.KnotSteps.{no-degree, counts-refused, knots-refused, domain-refused, all_fit}
use Rattle.spline.proofs.knots.check_knots.Goals as goal

pub returns-then-degree-eq0 : goal.returns-then-degree-eq0
returns-then-degree-eq0 c = no-degree _ _ _ c.if-degree-eq0.true

pub returns-then-not-counts_fit : goal.returns-then-not-counts_fit
returns-then-not-counts_fit c = counts-refused _ _ _ c.if-degree-eq0.false (omega arith) (sym c.counts_fit.ensures ∙ c.if-not-counts_fit.true)

pub returns-then-not-knots_fit : goal.returns-then-not-knots_fit
returns-then-not-knots_fit c = knots-refused _ _ _ c.if-degree-eq0.false (omega arith) (sym c.knots_fit.ensures ∙ c.if-not-knots_fit.true)

pub domain_fits-requires : goal.domain_fits-requires
domain_fits-requires c =
    let h = counts-hold _ _ _ (sym c.counts_fit.ensures ∙ c.if-not-counts_fit.false) in
    (h.1, omega arith)

pub returns-then-not-domain_fits : goal.returns-then-not-domain_fits
returns-then-not-domain_fits c = domain-refused _ _ _ c.if-degree-eq0.false (omega arith) (sym c.domain_fits.ensures ∙ c.if-not-domain_fits.true)

pub returns : goal.returns
returns c =
    all_fit _ _ _ c.if-degree-eq0.false (omega arith)
    (sym c.counts_fit.ensures ∙ c.if-not-counts_fit.false)
    (sym c.knots_fit.ensures ∙ c.if-not-knots_fit.false)
    (sym c.domain_fits.ensures ∙ c.if-not-domain_fits.false)
