-- What a call is lent: a surface, or an axis of one. Definitions only.
use Rattle.std.specs.Prelude.{List, Float}
use Rattle.std.specs.Borrow.{Bor}
use denote.Triple.Both.{Both}
use Rattle.spline.specs.declared.parameter.KnotSide.TheVariants.{Right}
use Rattle.spline.specs.Knots.{low, high}
use Rattle.basis.specs.Basis.{Sample, basis_at}
use Rattle.domain.specs.declared.Counts.{Counts}
use Rattle.domain.specs.declared.Shape.{Shape}
use Rattle.domain.specs.Intervals.{axis_of, wrapped}
use Rattle.surface.specs.Surface.{Surface, surface, bare}

-- the surface that a call is lent: in a `requires`, and in an `ensures`, as it was at entry
abbrev pub surface_of : Shape → (ku kv controls weights : Bor (List Float)) → Surface
surface_of shape ku kv cs ws = surface shape ku.now kv.now cs.now ws.now

abbrev pub at_entry : {A B C D : Type 0} → Shape → Both (Bor (List Float)) A → Both (Bor (List Float)) B → Both (Bor (List Float)) C → Both (Bor (List Float)) D → Surface
at_entry shape ku kv cs ws = surface_of shape ku.entry kv.entry cs.entry ws.entry

-- one of which only the shape and the knots are lent: no control, no weight
abbrev pub bare_at_entry : {A B : Type 0} → Shape → Both (Bor (List Float)) A → Both (Bor (List Float)) B → Surface
bare_at_entry shape ku kv = bare shape ku.entry.now kv.entry.now

-- `sample_u` and `sample_v` are this of their own axis
abbrev pub sample_on : Counts → List Float → Float → Sample
sample_on n ks t = let a = axis_of n ks in basis_at a Right (wrapped n.periodic (low a) (high a) t)
