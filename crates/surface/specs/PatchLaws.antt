-- An evaluation by the functions that stand in rows: where they are found they start a patch. Assumes nothing.
use Rattle.std.specs.Prelude.{◌≡◌, Bool, ◌&&◌, List, ℕ, zero, suc, ◌+◌, ◌*◌, ◌<◌, length, Float}
use Rattle.std.proofs.Math.Path.{refl, sym}
use Rattle.std.proofs.Common.{ap, ◌∙◌, zero-add, add-zero, add-suc, suc-add, arith}
use Rattle.std.proofs.Math.Bool.{true, false, and-eq-true_iff}
use Rattle.spline.specs.declared.parameter.KnotSide.TheVariants.{Right}
use Rattle.spline.specs.KnotLaws.{accepted}
use Rattle.basis.specs.declared.Place.{Place}
use Rattle.basis.specs.Basis.{refused, sample, threes, shown}
use Rattle.basis.specs.Rows.{Rows, basis_of}
use Rattle.basis.specs.BasisLaws.{start-below}
use Rattle.patch.specs.declared.Sums.{Sums}
use Rattle.patch.specs.declared.Evaluated.{Evaluated}
use Rattle.patch.specs.declared.Evaluated.TheVariants.{Refused}
use Rattle.patch.specs.Patch.{rational}
use Rattle.surface.specs.Surface.{Surface, function_at, axis_u, axis_v, blended, sample_u, sample_v, refusal_of_surface, evaluate_by}
use Rattle.surface.specs.SurfaceLaws.{accepted-surface}
use Rattle.net.specs.Net.{Patch, WeighedNet, three_at, sums_by}
use Rattle.surface.specs.SumLaws.{all-six}

-- function number n of those that stand in rows
threes-at : (p : Place) (rows : Rows) (k j n : ℕ) → n < k → function_at (threes (basis_of p rows) k j) n ≡ three_at rows (j + n)
unfolding threes
threes-at p rows zero j n h = absurd (omega arith)
threes-at p rows (suc k) j zero h = rw add-zero
threes-at p rows (suc k) j (suc n) h = threes-at p rows k (suc j) n (omega arith) ∙ rw (add-suc j n, suc-add j n)

found-place : (degree : ℕ) (p : Place) (rows : Rows) → p.found ≡ true → shown degree (basis_of p rows) ≡ sample p.start (threes (basis_of p rows) (suc degree) 0)
unfolding shown
found-place degree p rows f = simp f

refused-place : (degree : ℕ) (p : Place) (rows : Rows) → p.found ≡ false → shown degree (basis_of p rows) ≡ refused
unfolding shown
refused-place degree p rows f = simp f

module _ (s : Surface) (h : refusal_of_surface s ≡ 0) where
  pub weights-lent : length s.weights ≡ s.shape.u.controls * s.shape.v.controls
  weights-lent = (accepted-surface s h).weights

  pub controls-lent : length s.controls ≡ 3 * (s.shape.u.controls * s.shape.v.controls)
  controls-lent = let a = accepted-surface s h in omega arith

  -- a patch that starts so has its degree + 1 rows and columns in the net
  pub patch-below : (i j : ℕ) → i + s.shape.u.degree < s.shape.u.controls → j + s.shape.v.degree < s.shape.v.controls → Patch s.shape i j
  patch-below i j k l =
      let a = accepted-surface s h in
      let au = accepted (axis_u s) a.knots-u in
      let av = accepted (axis_v s) a.knots-v in
      record { rows-most = au.degree-most; columns-most = av.degree-most; down = k; across = l; few-rows = au.controls-most; few = a.total-most }

  module _ (x y : Float) (p q : Place) (us vs : Rows) (e : shown s.shape.u.degree (basis_of p us) ≡ sample_u s x) (f : shown s.shape.v.degree (basis_of q vs) ≡ sample_v s y) where
    -- both are found, or they are not
    module _ (b : (p.found && q.found) ≡ true) where
      found : (p.found ≡ true) × (q.found ≡ true)
      found = (and-eq-true_iff p.found q.found).0 b

      pub patch-at : Patch s.shape p.start q.start
      patch-at =
          let a = accepted-surface s h in
          patch-below p.start q.start (start-below (axis_u s) Right _ (basis_of p us) a.knots-u e found.0) (start-below (axis_v s) Right _ (basis_of q vs) a.knots-v f found.1)

      pub both : (m : Float) (net : List Float) → WeighedNet s.shape s.weights m p.start q.start net → {t : Sums} → t ≡ sums_by s.shape s.controls p.start q.start net us vs → {r : Evaluated} → r ≡ rational t → r ≡ evaluate_by s m x y
      unfolding evaluate_by blended
      both m net w et er =
          let du = s.shape.u.degree in
          let dv = s.shape.v.degree in
          let rows = all-six s m p.start q.start net w (threes (basis_of p us) (suc du) 0) (threes (basis_of q vs) (suc dv) 0) us vs (λ n l. threes-at p us (suc du) 0 n (omega arith) ∙ rw zero-add) (λ n l. threes-at q vs (suc dv) 0 n (omega arith) ∙ rw zero-add) in
          er ∙ rw (← e, ← f, found-place du p us found.0, found-place dv q vs found.1) (ap rational (et ∙ sym rows))

    pub not-both : (m : Float) → (p.found && q.found) ≡ false → Refused ≡ evaluate_by s m x y
    unfolding evaluate_by blended
    not-both m g = by p.found refl g
      where
        by : (b : Bool) → p.found ≡ b → (b && q.found) ≡ false → Refused ≡ blended s m (sample_u s x) (sample_v s y)
        by false c n = rw (← e, refused-place s.shape.u.degree p us c) refl
        by true c n = rw (← e, ← f, found-place s.shape.u.degree p us c, refused-place s.shape.v.degree q vs n) refl
