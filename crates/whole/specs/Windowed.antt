-- A surface with another window, and the window that has the domain's own bits. Definitions only.
use Rattle.domain.specs.declared.Window.{Window}
use Rattle.domain.specs.declared.Window.TheVariants.{Whole, Within}
use Rattle.surface.specs.Surface.{Surface, surface, domain_of}

abbrev pub windowed : Window → Surface → Surface
windowed w s = surface (record { u = s.shape.u; v = s.shape.v; window = w }) s.knots_u s.knots_v s.controls s.weights

-- without a window
abbrev pub unframed : Surface → Surface
unframed s = windowed Whole s

-- with one whose bits are the domain's
abbrev pub framed : Surface → Surface
framed s = let d = domain_of s in windowed (Within d.u.low d.u.high d.v.low d.v.high) s
