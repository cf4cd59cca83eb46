-- What a window leaves of an axis: the whole domain where it is periodic, else what lies from the window's low to its high. Assumes nothing.
use Rattle.std.specs.Prelude.{◌≡◌, Bool, cond, Float}
use Rattle.std.proofs.Math.Path.{refl}
use Rattle.std.proofs.Math.Bool.{true, false}
use Rattle.std.proofs.Common.{true≢false}
use Rattle.std.proofs.lemmas.Bool.{false≢true}
use Rattle.domain.specs.declared.Interval.{Interval}
use Rattle.domain.specs.Windows.{window_on}

module _ (i : Interval) (lo hi : Float) where
  abbrev by_flag : Bool → Interval
  by_flag p = record { low = cond p i.low lo; high = cond p i.high hi; periodic = p }

  pub window-flagged : i.periodic ≡ true → window_on i lo hi ≡ i
  unfolding window_on
  window-flagged e = by i.periodic e
    where
      by : (p : Bool) → p ≡ true → by_flag p ≡ record { low = i.low; high = i.high; periodic = p }
      by true e = refl
      by false e = absurd (false≢true e)

  pub window-flagless : i.periodic ≡ false → window_on i lo hi ≡ record { low = lo; high = hi; periodic = false }
  unfolding window_on
  window-flagless e = by i.periodic e
    where
      by : (p : Bool) → p ≡ false → by_flag p ≡ record { low = lo; high = hi; periodic = false }
      by true e = absurd (true≢false e)
      by false e = refl
