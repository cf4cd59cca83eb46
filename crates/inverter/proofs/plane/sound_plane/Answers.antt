use Rattle.inverter.specs.Plane.{sound_plane}
use Rattle.inverter.proofs.plane.sound_plane.Goals as goal

pub returns : goal.returns
unfolding sound_plane
returns c = rw (c.finite_vector.ensures, c.finite_vector-2.ensures, c.finite_vector-3.ensures, c.finite_vector-4.ensures)
