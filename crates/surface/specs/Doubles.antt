-- That the numbers of a surface which decide where its grid lies are doubles. The calls' contracts say so of an accepted surface that they are lent. Definitions only.
use Rattle.domain.specs.Doubles.{Doubles, DoubleWindow}
use Rattle.surface.specs.Surface.{Surface}

pub record Doubled (s : Surface) : Type 0 where
  pub u : Doubles s.knots_u
  pub v : Doubles s.knots_v
  pub window : DoubleWindow s.shape.window
