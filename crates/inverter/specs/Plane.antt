-- What the call that places a mark on a plane answers, for all input: a number of it may be infinite or a NaN. Definitions only.
use Rattle.std.specs.Prelude.{ℕ, Bool, ◌&&◌}
use Rattle.vector3.specs.declared.Vector3.{Vector3}
use Rattle.vector3.specs.Vector3.{sub, dot, finite_vector}
use Rattle.inverter.specs.declared.Components.{Components}
use Rattle.inverter.specs.declared.Components.TheVariants.{Along}
use Rattle.inverter.specs.declared.plane.Frame.{Frame}
use Rattle.inverter.specs.Inverter.{charged}

unfoldable pub sound_plane : Frame → Vector3 → Bool
sound_plane f mark = finite_vector f.origin && finite_vector f.x && finite_vector f.y && finite_vector mark

-- the mark's coordinates in the frame
unfoldable pub local_of : Frame → Vector3 → Components
local_of f mark =
    let d = sub mark f.origin in
    Along (dot d f.x) (dot d f.y)

unfoldable pub placed_on : Frame → Vector3 → ℕ → Components
placed_on f mark budget = charged (sound_plane f mark) budget (local_of f mark)
