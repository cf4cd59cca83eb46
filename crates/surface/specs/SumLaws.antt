-- The sums by what stands in a net and in rows are those of the definition, and each of the six is one by itself. Assumes nothing.
use Rattle.std.specs.Prelude.{◌≡◌, List, ℕ, ◌<◌, Float}
use Rattle.std.proofs.Math.Path.{refl}
use Rattle.std.proofs.Common.{◌∙◌}
use Rattle.vector3.specs.declared.Vector3.{Vector3}
use Rattle.basis.specs.Basis.{Three, three}
use Rattle.basis.specs.Rows.{Rows}
use Rattle.basis.specs.Parts.{value_of, first_of}
use Rattle.patch.specs.declared.Sum.{Sum}
use Rattle.patch.specs.declared.Sums.{Sums}
use Rattle.patch.specs.Patch.{add_control, empty_sums}
use Rattle.net.specs.Sums.{rows_of, columns_of, sum_over}
use Rattle.net.specs.Net.{WeighedNet, net_at, three_at, number_at, term, sums_by, sum_by}
use Rattle.net.specs.NetLaws.{over-part}
use Rattle.surface.specs.Surface.{Surface, function_at, sums}

module _ (s : Surface) (m : Float) (i j : ℕ) (net : List Float) (w : WeighedNet s.shape s.weights m i j net) (us vs : List Three) where
  pub all-six : (ru rv : Rows) → ((n : ℕ) → n < rows_of s.shape → function_at us n ≡ three_at ru n) → ((n : ℕ) → n < columns_of s.shape → function_at vs n ≡ three_at rv n)
      → sums s m i j us vs ≡ sums_by s.shape s.controls i j net ru rv
  unfolding sums sums_by
  all-six ru rv eu ev = over-part (λ t. t) s.shape _ _ (λ k l a b t. rw (eu k a, ev l b, w.each k l a b)) empty_sums

  -- rows that hold the numbers f of u's functions and g of v's
  abbrev Rows-of : (Three → Float) → (Three → Float) → List Float → List Float → Type 0
  Rows-of f g fs gs = ((n : ℕ) → n < rows_of s.shape → f (function_at us n) ≡ number_at fs n) × ((n : ℕ) → n < columns_of s.shape → g (function_at vs n) ≡ number_at gs n)

  alone : (π : Sums → Sum) (f g : Three → Float) → ((a b : Three) (x : Float) (p : Vector3) (t : Sums) → π (add_control a b x p t) ≡ term (f a) (g b) x p (π t)) → (fs gs : List Float) → Rows-of f g fs gs
      → π (sums s m i j us vs) ≡ sum_over s.shape i j term s.controls (number_at fs) (number_at gs) (net_at s.shape net) (π empty_sums)
  unfolding sums
  alone π f g part fs gs r = over-part π s.shape _ _ (λ k l a b t. part _ _ _ _ t ∙ rw (r.0 k a, r.1 l b, w.each k l a b)) empty_sums

  pub value-alone : (fs gs : List Float) → Rows-of value_of value_of fs gs → (sums s m i j us vs).value ≡ sum_by s.shape s.controls i j net fs gs
  unfolding add_control sum_by
  value-alone = alone (λ t. t.value) value_of value_of by
    where
      by : (a b : Three) (x : Float) (p : Vector3) (t : Sums) → (add_control a b x p t).value ≡ term (value_of a) (value_of b) x p t.value
      by (three a0 a1 a2) (three b0 b1 b2) x p t = refl

  pub u-alone : (fs gs : List Float) → Rows-of first_of value_of fs gs → (sums s m i j us vs).u ≡ sum_by s.shape s.controls i j net fs gs
  unfolding add_control sum_by
  u-alone = alone (λ t. t.u) first_of value_of by
    where
      by : (a b : Three) (x : Float) (p : Vector3) (t : Sums) → (add_control a b x p t).u ≡ term (first_of a) (value_of b) x p t.u
      by (three a0 a1 a2) (three b0 b1 b2) x p t = refl

  pub v-alone : (fs gs : List Float) → Rows-of value_of first_of fs gs → (sums s m i j us vs).v ≡ sum_by s.shape s.controls i j net fs gs
  unfolding add_control sum_by
  v-alone = alone (λ t. t.v) value_of first_of by
    where
      by : (a b : Three) (x : Float) (p : Vector3) (t : Sums) → (add_control a b x p t).v ≡ term (value_of a) (first_of b) x p t.v
      by (three a0 a1 a2) (three b0 b1 b2) x p t = refl
