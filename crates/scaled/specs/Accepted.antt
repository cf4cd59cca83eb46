-- What holds of a surface that passed its checks, and of what they answer. Assumes nothing.
use Rattle.std.specs.Prelude.{◌≡◌, true}
use Rattle.std.proofs.Common.{sym, subst}
use Rattle.domain.specs.declared.Shape.{Shape}
use Rattle.surface.specs.declared.Checked.TheVariants as Check
use Rattle.surface.specs.Surface.{Surface, surface, checked, refusal_of_surface, scale_of, window_of}
use Rattle.surface.specs.SurfaceLaws.{checked-scale}
use Rattle.surface.specs.Doubles.{Doubled}
use Rattle.scaled.specs.declared.Accepted.{Accepted}
use Rattle.scaled.specs.declared.Acceptance.{Acceptance}
use Rattle.scaled.specs.Magnitude.{Bounded}

pub record Accepts (s : Surface) (a : Accepted) : Type 0 where
  pub shape : a.shape ≡ s.shape
  pub window : a.window ≡ window_of s
  pub checked : checked s ≡ Check.Scale a.largest
  pub bounded : a.bounded ≡ true → Bounded s
  pub doubles : Doubled s

-- by what was answered
abbrev pub AcceptedAs : Surface → Acceptance → Type 0
AcceptedAs s (Acceptance.Accepted a) = Accepts s a
AcceptedAs s (Acceptance.Refusal n) = checked s ≡ Check.Refusal n

module _ {s : Surface} {a : Accepted} (h : Accepts s a) where
  pub not-refused : refusal_of_surface s ≡ 0
  not-refused = (checked-scale s a.largest h.checked).0

  pub largest-is : a.largest ≡ scale_of s
  largest-is = (checked-scale s a.largest h.checked).1

  -- the shape that was accepted is the surface's own
  pub by_shape : Accepts (surface a.shape s.knots_u s.knots_v s.controls s.weights) a
  by_shape = subst (λ (z : Shape). Accepts (surface z s.knots_u s.knots_v s.controls s.weights) a) (sym h.shape) h
