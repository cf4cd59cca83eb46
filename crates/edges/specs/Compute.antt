-- One name that opens every definition, those of the crates below too: a theorem that computes says `unfolding compute`.
use Rattle.surface.specs.Compute as Surface
use Rattle.edges.specs.Edges.{near, jet_at, all_near, edge_by, edge_of, edges_of, sound_tolerance, tested, singular_by, singular, number_of, collapsed, list_of}

unfoldable pub compute : Unit {0}
unfolding Surface.compute near jet_at all_near edge_by edge_of edges_of sound_tolerance tested singular_by singular number_of collapsed list_of
compute = tt
