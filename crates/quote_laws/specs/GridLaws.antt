-- The quote's grid: it is that of the definition of an inversion, and by how many knots it has how many points. Assumes nothing.
use Rattle.std.specs.Prelude.{◌≡◌, refl, Bool, cond, ℕ, zero, suc, ◌+◌, ◌*◌, ◌≤◌, eqb, length, Float}
use Rattle.std.proofs.Math.Path.{sym}
use Rattle.std.proofs.Common.{ap, ◌∙◌, zero-mul, suc-mul, length-append}
use Rattle.std.proofs.Math.Bool.{true, false}
use mathlib.Core.List.{List, [], ◌∷◌, map}
use native.Mathlib.Omega.{arith}
use Rattle.price.specs.Evaluations.{Pair}
use Rattle.domain.specs.declared.Window.TheVariants.{Whole}
use Rattle.spline.specs.Knots.{low, high}
use Rattle.grid.specs.Axis.{stride}
use Rattle.grid.specs.AxisLaws.{breaks-length, values_for, never-more}
use Rattle.domain.specs.Windows.{window_in}
use Rattle.window.specs.Values.{values_u, values_v}
use Rattle.window.specs.SourceLaws.{source_breaks, source-count}
use Rattle.surface.specs.Surface.{Surface, axis_u, axis_v, or_else, too_large, refusal_of_axes}
use Rattle.surface.specs.SurfaceLaws.{accepted-axes}
use Rattle.seeds.specs.Visits.{grid_of}
use Rattle.quotation.specs.declared.Costing.{Costing}
use Rattle.quotation.specs.declared.Quotation.TheVariants.{Quoted}
use Rattle.quotation.specs.Quote.{refusal_of_quote, grid_size, margin, quoted_by, quoted}
use Rattle.quotation.specs.QuoteLaws.{breaks_u, breaks_v, size-by-breaks, size-most}
use Rattle.quote_laws.specs.Quotes.{counts}

-- ---- what was quoted

pub record Sized (s : Surface) (hinted : Bool) (q : Costing) : Type 0 where
  pub small : too_large s ≡ false
  pub axes : refusal_of_axes s.shape s.knots_u s.knots_v ≡ 0
  pub grid : q.grid ≡ grid_size s
  pub most : q.most ≡ grid_size s + margin hinted

pub quoted-sized : (s : Surface) (hinted : Bool) (q : Costing) → quoted s hinted ≡ Quoted q → Sized s hinted q
unfolding quoted quoted_by refusal_of_quote or_else
quoted-sized s hinted q e = large (too_large s) refl e
  where
    never : {A : Type 0} → ◌≡◌ {A = ℕ} 0 1 → A
    never z = absurd (omega arith)

    by : too_large s ≡ false → (r : ℕ) → refusal_of_axes s.shape s.knots_u s.knots_v ≡ r → quoted_by s hinted r ≡ Quoted q → Sized s hinted q
    by few zero ok e = record { small = few; axes = ok; grid = cc; most = cc }
    by few (suc n) ok e = never cc

    large : (t : Bool) → too_large s ≡ t → quoted_by s hinted (or_else (cond t 1 0) (refusal_of_axes s.shape s.knots_u s.knots_v)) ≡ Quoted q → Sized s hinted q
    large true t e = never cc
    large false t e = by t (refusal_of_axes s.shape s.knots_u s.knots_v) refl e

-- ---- the grid in the definition of an inversion

row-length : (x : Float) (vs : List Float) → length {A = Pair} (map (λ v. (x, v)) vs) ≡ length vs
row-length x [] = refl
row-length x (v ∷ vs) = ap suc (row-length x vs)

grid-length : (us vs : List Float) → length (grid_of us vs) ≡ length us * length vs
unfolding grid_of
grid-length [] vs = sym (zero-mul (length vs))
grid-length (u ∷ us) vs =
    let row : List Pair = map (λ v. (u, v)) vs in
    omega (arith, length-append row (grid_of us vs), row-length u vs, grid-length us vs, suc-mul (length us) (length vs))

module _ (s : Surface) (hinted : Bool) (q : Costing) (is : quoted s hinted ≡ Quoted q) where
  -- "the exact grid size"
  pub grid-size-exact : q.grid ≡ length (grid_of (values_u s) (values_v s))
  unfolding grid_size
  grid-size-exact = (quoted-sized s hinted q is).grid ∙ sym (grid-length (values_u s) (values_v s))

  -- by the counts of the breaks of each axis, which are the window's
  pub grid-by-breaks : q.grid ≡ values_for (breaks_u s) * values_for (breaks_v s)
  grid-by-breaks = let z = quoted-sized s hinted q is in z.grid ∙ size-by-breaks s z.axes

  -- "no count of any size gives more", and demand 3's bound
  pub quote-most : (values_for (breaks_u s) ≤ 193) × (values_for (breaks_v s) ≤ 193) × (q.grid ≤ 37249) × (q.most ≤ 37513)
  unfolding margin
  quote-most =
      let z = quoted-sized s hinted q is in
      (never-more (breaks_u s), never-more (breaks_v s), omega (arith, z.grid, size-most s z.axes), by hinted z.most (size-most s z.axes))
    where
      by : (h : Bool) → q.most ≡ grid_size s + margin h → grid_size s ≤ 37249 → q.most ≤ 37513
      by true e l = omega arith
      by false e l = omega arith

  -- without a window they are the distinct knots of the domain, as the source takes them
  pub domain-breaks : s.shape.window ≡ Whole → (breaks_u s ≡ length (source_breaks (axis_u s))) × (breaks_v s ≡ length (source_breaks (axis_v s)))
  unfolding window_in
  domain-breaks w =
      let a = accepted-axes s.shape s.knots_u s.knots_v (quoted-sized s hinted q is).axes in
      rw w (breaks-length (axis_u s) (low (axis_u s)) (high (axis_u s)) ∙ sym (source-count (axis_u s) a.0), breaks-length (axis_v s) (low (axis_v s)) (high (axis_v s)) ∙ sym (source-count (axis_v s) a.1))

-- ---- which counts reach 193 values

unfoldable pub reaching : List ℕ → List ℕ
reaching [] = []
reaching (n ∷ ns) = cond (eqb (values_for n) 193) (n ∷ reaching ns) (reaching ns)

-- "from 2 to 96": all 95 of them
pub reach-193 : reaching (counts 2 95) ≡ 48 ∷ 71 ∷ 72 ∷ 94 ∷ 95 ∷ 96 ∷ []
unfolding reaching counts values_for stride
reach-193 = refl
