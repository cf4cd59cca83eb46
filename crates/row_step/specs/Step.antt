-- One mark of a row, and what it hands on to the next. Definitions only.
use Rattle.std.specs.Prelude.{◌-◌, cond}
use Rattle.vector3.specs.declared.Vector3.{Vector3}
use Rattle.surface.specs.Surface.{Surface}
use Rattle.inversion.specs.declared.Choice.{Choice}
use Rattle.inversion.specs.declared.Hint.{Hint}
use Rattle.inversion.specs.declared.Hint.TheVariants.{Nothing, At}
use Rattle.inversion.specs.Inversion.{within}
use Rattle.chart.specs.declared.Terms.{Terms}
use Rattle.chart.specs.declared.Placing.{Placing}
use Rattle.inverter.specs.Inverter.{placed}
use Rattle.row_step.specs.declared.Progress.{Progress}
use Rattle.row_step.specs.declared.Stepped.{Stepped}
use Rattle.row_step.specs.declared.Stepped.TheVariants.{Placed, Refusal}

abbrev pub with_hint : Terms → Hint → Terms
with_hint t h = record { hint = h; tolerance = t.tolerance; u = t.u; v = t.v }

-- "the preceding answer is the hint only if its run's end, before any shift by periods, lies within the tolerance; otherwise the next mark has none": the shift moves the pair and leaves its distance
unfoldable pub led_by : Terms → Choice → Terms
led_by t c = with_hint t (cond (within c.end t.tolerance) (At c.end.at.u c.end.at.v) Nothing)

-- and the budget serves on
unfoldable pub step_by : Progress → Placing → Stepped
step_by p (Placing.Pair c taken) = Placed c (record { terms = led_by p.terms c; left = p.left - taken })
step_by p (Placing.Refusal number taken) = Refusal number (p.left - taken)

unfoldable pub stepped : Surface → Vector3 → Progress → Stepped
stepped s mark p = step_by p (placed s mark p.terms p.left)
