-- The quote of a surface whose shape and knots pass: it is answered, and its grid is that of the two axes' counts of breaks. Assumes nothing.
use Rattle.std.specs.Prelude.{◌≡◌, Bool, false, ℕ, ◌+◌, ◌*◌, ◌≤◌, length, Float}
use Rattle.std.proofs.Common.{le-ltb}
use Rattle.std.proofs.Math.Nat.{mul-le-mul}
use Rattle.spline.specs.Knots.{Axis, refusal_of_knots}
use Rattle.domain.specs.declared.Domain.{Domain}
use Rattle.grid.specs.Axis.{Within, inner_of, breaks_of, values_of}
use Rattle.grid.specs.AxisLaws.{inner_within, breaks-length, values_for, values-most, values-of-count}
use Rattle.window.specs.SurfaceLaws.{window-in-domain}
use Rattle.surface.specs.Surface.{Surface, axis_u, axis_v, window_of, or_else, too_large, refusal_of_surface, refusal_of_axes}
use Rattle.surface.specs.SurfaceLaws.{accepted-axes, accepted-surface}
use Rattle.quotation.specs.declared.Quotation.TheVariants.{Quoted}
use Rattle.quotation.specs.Quote.{refusal_of_quote, grid_size, margin, quoted_by, quoted}

-- the window's ends and the distinct knots strictly between, of each axis
abbrev pub breaks_u : Surface → ℕ
breaks_u s = length (breaks_of (axis_u s) (window_of s).u.low (window_of s).u.high)

abbrev pub breaks_v : Surface → ℕ
breaks_v s = length (breaks_of (axis_v s) (window_of s).v.low (window_of s).v.high)

-- a count of values, worked out from the knots between the window's ends
pub counted : (a : Axis) → refusal_of_knots a ≡ 0 → (lo hi : Float) → Within a lo hi → (n : ℕ) → n ≡ values_for (length (inner_within lo hi a.knots) + 2) → n ≡ length (values_of a lo hi)
unfolding inner_of
counted a ok lo hi w n e = rw (values-of-count a ok lo hi w, breaks-length a lo hi) e

module _ (s : Surface) (ok : refusal_of_axes s.shape s.knots_u s.knots_v ≡ 0) where
  within : Within (axis_u s) (window_of s).u.low (window_of s).u.high × Within (axis_v s) (window_of s).v.low (window_of s).v.high
  within = let a = accepted-axes s.shape s.knots_u s.knots_v ok in window-in-domain s a.0 a.1 a.2

  knots-u : refusal_of_knots (axis_u s) ≡ 0
  knots-u = (accepted-axes s.shape s.knots_u s.knots_v ok).0

  knots-v : refusal_of_knots (axis_v s) ≡ 0
  knots-v = (accepted-axes s.shape s.knots_u s.knots_v ok).1

  -- "works the counts out without the values"
  pub size-counted : (w : Domain) → w ≡ window_of s → (m n : ℕ) → m ≡ values_for (length (inner_within w.u.low w.u.high s.knots_u) + 2) → n ≡ values_for (length (inner_within w.v.low w.v.high s.knots_v) + 2)
      → m * n ≡ grid_size s
  unfolding grid_size
  size-counted w is m n e f = rw (counted (axis_u s) knots-u _ _ within.0 m (rw is at e), counted (axis_v s) knots-v _ _ within.1 n (rw is at f))

  pub size-by-breaks : grid_size s ≡ values_for (breaks_u s) * values_for (breaks_v s)
  unfolding grid_size
  size-by-breaks = rw (values-of-count (axis_u s) knots-u _ _ within.0, values-of-count (axis_v s) knots-v _ _ within.1)

  pub size-most : grid_size s ≤ 37249
  unfolding grid_size
  size-most = mul-le-mul (values-most (axis_u s) knots-u _ _ within.0) (values-most (axis_v s) knots-v _ _ within.1)

  pub sized-quoted : too_large s ≡ false → (hinted : Bool) → quoted s hinted ≡ Quoted (record { grid = grid_size s; most = grid_size s + margin hinted })
  unfolding quoted quoted_by refusal_of_quote or_else
  sized-quoted few hinted = rw (few, ok)

-- an accepted surface is quoted
pub accepted-quoted : (s : Surface) → refusal_of_surface s ≡ 0 → (hinted : Bool) → quoted s hinted ≡ Quoted (record { grid = grid_size s; most = grid_size s + margin hinted })
unfolding too_large or_else
accepted-quoted s ok hinted =
    let a = accepted-surface s ok in
    sized-quoted s (simp (a.knots-u, a.knots-v, a.window)) (simp (le-ltb _ _ a.total-most, le-ltb _ _ a.knots-most)) hinted
