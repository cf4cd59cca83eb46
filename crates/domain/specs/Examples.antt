-- Computed: parameters on a periodic axis whose domain runs from 0 to 1.
use Rattle.std.specs.Prelude.{◌≡◌, refl, true, false, negsuc, Float}
use Rattle.std.specs.Float.{fin, binary64}
use Rattle.std.specs.Float.Ieee.{of_bits}
use Rattle.float64.specs.Operators.{0·, 1·, 2·}
use Rattle.domain.specs.Intervals.{wrapped}
use Rattle.domain.specs.Compute.{compute}

wrap : Float → Float
wrap t = wrapped true 0· 1· t

above : wrap (fin false 5 (negsuc 1)) ≡ fin false 1 (negsuc 1)
unfolding compute wrap
above = refl

below : wrap (fin true 1 (negsuc 1)) ≡ fin false 3 (negsuc 1)
unfolding compute wrap
below = refl

upper-end : wrap 1· ≡ 1·
unfolding compute wrap
upper-end = refl

-- -1e-20 and the width make 1
just-below : wrap (of_bits binary64 0xbbc7_9ca1_0c92_4223) ≡ 1·
unfolding compute wrap
just-below = refl

twice-round : wrap 2· ≡ 0·
unfolding compute wrap
twice-round = refl
