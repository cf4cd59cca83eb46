-- What a budget makes of a run, as it is answered, read both ways. Assumes nothing.
use Rattle.std.proofs.Math.Path.{◌≡◌, refl}
use Rattle.std.proofs.Common.{sym, ◌∙◌, arith}
use Rattle.std.specs.Prelude.{ℕ, ◌≤◌, ◌<◌, Float}
use Rattle.vector3.specs.declared.Vector3.{Vector3}
use Rattle.price.specs.Price.{Priced, refused, answered, price, mapped, Paid, spent, paid, spend}
use Rattle.price.specs.PriceLaws.{spend-enough, spend-short, was-paid, was-spent, mapped-price}
use Rattle.patch.specs.declared.Evaluated.{Evaluated}
use Rattle.domain.specs.declared.Domain.{Domain}
use Rattle.newton.specs.declared.Finished.{Finished}
use Rattle.newton.specs.declared.Outcome.{Outcome}
use Rattle.newton.specs.declared.Outcome.TheVariants.{Ended, Refused, Spent}
use Rattle.newton.specs.Run.{finished, run, outcome_of}

module _ (budget : ℕ) where
  pub ended-told : (f : Finished) (n : ℕ) → n ≤ budget → Ended f n ≡ outcome_of (spend budget (answered f n))
  unfolding outcome_of
  ended-told f n h = rw (spend-enough budget (answered f n) h)

  pub refused-told : (n : ℕ) → n ≤ budget → Refused n ≡ outcome_of (spend budget (refused n))
  unfolding outcome_of
  refused-told n h = rw (spend-enough {A = Finished} budget (refused n) h)

  pub short-told : (r : Priced Finished) → budget < price r → Spent ≡ outcome_of (spend budget r)
  unfolding outcome_of
  short-told r h = rw (spend-short budget r h)

  module _ (r : Priced Finished) {o : Outcome} (e : o ≡ outcome_of (spend budget r)) where
    spent-back : o ≡ Spent → budget < price r
    unfolding outcome_of
    spent-back f = by (spend budget r) refl (sym f ∙ e)
      where
        by : (p : Paid Finished) → spend budget r ≡ p → Spent ≡ outcome_of p → budget < price r
        by spent q z = was-spent budget r (sym q)
        by (paid (refused n)) q z = absurd (let y : ◌≡◌ {A = ℕ} 0 1 = cc in omega arith)
        by (paid (answered a n)) q z = absurd (let y : ◌≡◌ {A = ℕ} 0 1 = cc in omega arith)

    refused-back : (n : ℕ) → o ≡ Refused n → (r ≡ refused n) × (n ≤ budget)
    unfolding outcome_of
    refused-back n f = by (spend budget r) refl (sym f ∙ e)
      where
        by : (p : Paid Finished) → spend budget r ≡ p → Refused n ≡ outcome_of p → (r ≡ refused n) × (n ≤ budget)
        by spent q z = absurd (let y : ◌≡◌ {A = ℕ} 0 1 = cc in omega arith)
        by (paid (refused k)) q z = let y : k ≡ n = cc in was-paid budget r (refused n) (sym (rw y at q))
        by (paid (answered a k)) q z = absurd (let y : ◌≡◌ {A = ℕ} 0 1 = cc in omega arith)

    pub ended-back : (a : Finished) (n : ℕ) → o ≡ Ended a n → (r ≡ answered a n) × (n ≤ budget)
    unfolding outcome_of
    ended-back a n f = by (spend budget r) refl (sym f ∙ e)
      where
        by : (p : Paid Finished) → spend budget r ≡ p → Ended a n ≡ outcome_of p → (r ≡ answered a n) × (n ≤ budget)
        by spent q z = absurd (let y : ◌≡◌ {A = ℕ} 0 1 = cc in omega arith)
        by (paid (refused k)) q z = absurd (let y : ◌≡◌ {A = ℕ} 0 1 = cc in omega arith)
        by (paid (answered b k)) q z =
            let y : k ≡ n = cc in
            let w : b ≡ a = cc in
            was-paid budget r (answered a n) (sym (rw (y, w) at q))

-- ---- a run's end alone, from what the call answers

module _ (d : Domain) (mark : Vector3) (eval : Float → Float → Evaluated) (u v : Float) (budget : ℕ) {o : Outcome} (e : o ≡ outcome_of (spend budget (finished d mark eval u v))) where
  pub spent-run : o ≡ Spent → budget < price (run d mark eval u v)
  unfolding run
  spent-run f = rw (mapped-price (λ (f : Finished). f.end) (finished d mark eval u v)) (spent-back budget _ e f)

  pub refused-run : (n : ℕ) → o ≡ Refused n → (run d mark eval u v ≡ refused n) × (n ≤ budget)
  unfolding run mapped
  refused-run n f = let p = refused-back budget _ e n f in (rw p.0, p.1)

  pub ended-run : (a : Finished) (n : ℕ) → o ≡ Ended a n → (run d mark eval u v ≡ answered a.end n) × (n ≤ budget)
  unfolding run mapped
  ended-run a n f = let p = ended-back budget _ e a n f in (rw p.0, p.1)
