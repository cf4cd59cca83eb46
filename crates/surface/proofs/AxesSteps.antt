-- The checks of a surface that has only its shape and its knots, one by one. Assumes nothing.
use mathlib.Core.Path.{◌≡◌, refl, sym}
use mathlib.Core.Bool.{true, false, or-true}
use Prim.Native.Nat.{ℕ, zero, suc, ◌+◌, ◌≤◌, ◌<◌, min}
use native.Mathlib.Omega.{arith}
use lib.ListN.{length}
use borrow.Author.Tests.{lt-ltb, le-ltb}
use Rattle.surface.specs.Surface.{Surface, total, or_else, too_large}

-- p is how many controls there are to be, or one over the limit
module _ (s : Surface) (p : ℕ) (e : p ≡ min (total s) 100001) where
  pub many-controls : 100000 < p → true ≡ too_large s
  unfolding too_large
  many-controls h = simp (lt-ltb 100000 (total s) (omega arith))

  pub many-knots : 100034 < length s.knots_u + length s.knots_v → true ≡ too_large s
  unfolding too_large
  many-knots h = simp (lt-ltb 100034 (length s.knots_u + length s.knots_v) h, or-true)

  pub few : p ≤ 100000 → length s.knots_u + length s.knots_v ≤ 100034 → false ≡ too_large s
  unfolding too_large
  few h k = simp (le-ltb 100000 (total s) (omega arith), le-ltb 100034 (length s.knots_u + length s.knots_v) k)

-- ---- one check after another

pub here : (r x rest : ℕ) → r ≡ x → (r ≡ 0 → ⊥) → r ≡ or_else x rest
unfolding or_else
here zero x rest e h = absurd (h refl)
here (suc k) x rest e h = rw (sym e)

pub onward : (r x rest : ℕ) → r ≡ x → r ≡ 0 → rest ≡ or_else x rest
unfolding or_else
onward r x rest e z = rw (sym e, z)
