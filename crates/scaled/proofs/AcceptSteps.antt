-- The sizes of a surface's numbers, as their tests tell of them. Assumes nothing.
use mathlib.Core.Path.{◌≡◌, refl, sym, ◌∙◌}
use mathlib.Core.Bool.{Bool, true, false, ◌&&◌, and-eq-true_iff}
use mathlib.Core.Logic.{⊎_elim}
use mathlib.Core.List.{List}
use Prim.Native.Nat.{ℕ, ◌+◌, ◌<◌}
use native.Mathlib.Nat.{eq-or-lt_of_le}
use native.Mathlib.Omega.{arith}
use lib.Dec.{lit≤}
use lib.IntN.{pos}
use lib.ListN.{length, get_or}
use lib.Ieee.{Float, nan, binary64, neg, le, of_bits}
use Rattle.float64.specs.Magnitude.{Mag, within, mag-neg, mag-between}
use Rattle.spline.specs.Knots.{refusal_of_knots}
use Rattle.basis.specs.Magnitude as Basis
use Rattle.domain.specs.declared.Domain.{Domain}
use Rattle.surface.specs.declared.Checked.{Checked}
use Rattle.surface.specs.declared.Checked.TheVariants as Check
use Rattle.surface.specs.Surface.{Surface, axis_u, axis_v, checked, window_of}
use Rattle.surface.specs.Doubles.{Doubled}
use Rattle.surface.specs.SurfaceLaws.{AcceptedSurface, accepted-surface, checked-scale}
use Rattle.scaled.specs.Accepted.{Accepts}

-- 2 ^ 100
abbrev most_size : Float
most_size = of_bits binary64 0x4630_0000_0000_0000

most-mag : Mag 1174 most_size
unfolding of_bits
most-mag = record { most = within false 1 (pos 100) (lit≤ tt) }

-- those before i are within, where t tells so
abbrev pub Told : List Float → ℕ → Bool → Type 0
Told cs i t = t ≡ true → (n : ℕ) → n < i → Mag 1174 (get_or cs n nan)

pub told_more : (cs : List Float) (i : ℕ) (t : Bool) → Told cs i t → (let x = get_or cs i nan in Told cs (i + 1) (t && le (neg most_size) x && le x most_size))
told_more cs i t h b n l =
    let x = get_or cs i nan in
    let y = (and-eq-true_iff (t && le (neg most_size) x) (le x most_size)).0 b in
    let z = (and-eq-true_iff t (le (neg most_size) x)).0 y.0 in
    let last : Mag 1174 x = mag-between x (mag-neg most-mag) most-mag z.1 y.1 in
    let below : n < i + 1 = l in
    ⊎_elim (λ q. rw q last) (λ q. h z.0 n q) (eq-or-lt_of_le (omega arith))

-- a surface whose checks answered c, a scale
module _ (s : Surface) {c : Checked} (e : c ≡ checked s) {m : Float} (h : c ≡ Check.Scale m) where
  scale : checked s ≡ Check.Scale m
  scale = sym e ∙ h

  pub sound : AcceptedSurface s
  sound = accepted-surface s (checked-scale s m scale).0

  -- the tests of the sizes, by what each of them tells
  pub accepts : (d : Domain) (p q r : Bool) → d ≡ window_of s
      → (refusal_of_knots (axis_u s) ≡ 0 → p ≡ true → Basis.Bounded (axis_u s)) → (refusal_of_knots (axis_v s) ≡ 0 → q ≡ true → Basis.Bounded (axis_v s)) → Told s.controls (length s.controls) r → Doubled s
      → Accepts s (record { shape = s.shape; window = d; largest = m; bounded = p && q && r })
  accepts d p q r e hu hv hc doubles = record {
    shape = refl;
    window = e;
    checked = scale;
    bounded = λ b.
        let y = (and-eq-true_iff (p && q) r).0 b in
        let z = (and-eq-true_iff p q).0 y.0 in
        record { u = hu sound.knots-u z.0; v = hv sound.knots-v z.1; controls = hc y.1 };
    doubles = doubles;
  }
