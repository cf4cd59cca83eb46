use Rattle.surface.specs.SurfaceLaws.{accepted-surface}
use Rattle.edges.proofs.Steps.{all_told}
use Rattle.edges.proofs.all_edges.Goals as goal

pub domain_of-domain-requires : goal.domain_of-domain-requires
domain_of-domain-requires c = let a = accepted-surface _ c.requires in (a.knots-u, a.knots-v)

pub returns : goal.returns
returns c =
    all_told _ _ _ c.domain_of-domain.ensures
    c.line_of-a.ensures c.line_of-b.ensures c.line_of-c.ensures c.line_of-d.ensures
    c.edge.ensures c.edge-2.ensures c.edge-3.ensures c.edge-4.ensures
