-- 01's number of each answer, in its order, for all input: when it is answered, and never elsewhere; and the budget left. Assumes nothing.
use Rattle.std.specs.Prelude.{◌≡◌, Bool, not, ◌&&◌, ◌||◌, ◌↔◌, Float}
use Rattle.std.proofs.Math.Path.{refl}
use Rattle.std.proofs.Common.{sym, subst, true≢false, arith}
use Rattle.std.proofs.Math.Bool.{true, false, cond}
use Rattle.std.proofs.lemmas.Bool.{false≢true}
use Prim.Native.Nat.{ℕ, zero, suc, ◌-◌, ◌<◌}
use Rattle.std.proofs.Math.Dec.{ltb}
use Rattle.std.specs.Float.Ieee.{le}
use borrow.Author.Tests.{ltb-true, ltb-false}
use Rattle.float64.specs.Operators.{◌⊖◌, ◌⊗◌, 1e-24}
use Rattle.float64.specs.Functions.{is_finite}
use Rattle.vector3.specs.declared.Vector3.{Vector3}
use Rattle.vector3.specs.Vector3.{dot, finite_vector}
use Rattle.patch.specs.declared.Jet.{Jet}
use Rattle.patch.specs.declared.Evaluated.{Evaluated}
use Rattle.patch.specs.declared.Evaluated.TheVariants.{Found, Refused}
use Rattle.surface.specs.Surface.{Surface, or_else, when, scale_of, refusal_of_surface, judged, checked, evaluate_by}
use Rattle.surface.specs.Refusals.{Line, this, next, None, SurfaceLines}
use Rattle.surface.specs.NumberLaws.{none-one, line-one, Decides, above, tested, numbered}
use Rattle.price.specs.Price.{Priced, refused, answered, price}
use Rattle.inversion.specs.declared.Choice.{Choice}
use Rattle.chart.specs.declared.Terms.{Terms}
use Rattle.chart.specs.declared.Placing.{Placing}
use Rattle.chart.specs.Chart.{sound_search, placed_by}
use Rattle.chart.specs.Chart as Chart
use Rattle.inverter.specs.declared.Components.{Components}
use Rattle.inverter.specs.declared.Components.TheVariants.{Along, Refusal}
use Rattle.inverter.specs.declared.plane.Frame.{Frame}
use Rattle.inverter.specs.Inverter.{on_checked, placed, charged, number_of, left_of}
use Rattle.inverter.specs.Plane.{sound_plane, local_of, placed_on}
use Rattle.inverter.specs.Preimage.{resolved, moved, moved_from, derived}
use Rattle.inverter.specs.PlacingLaws.{steps_of, result_of, result-left, answer-enough, answer-short}

abbrev pub is_zero : ℕ → Bool
is_zero zero = true
is_zero (suc n) = false

is-zero : (n : ℕ) → Decides (is_zero n) (n ≡ 0)
is-zero zero = (λ e. refl, λ e. absurd (true≢false e))
is-zero (suc n) = (λ e. absurd (false≢true e), λ e h. omega arith)

fails : (b : Bool) → Decides (not b) (b ≡ false)
fails true = (λ e. absurd (false≢true e), λ e h. true≢false h)
fails false = (λ e. refl, λ e. absurd (true≢false e))

-- whether a surface passes its checks
abbrev pub passes : Surface → Bool
passes s = is_zero (refusal_of_surface s)

-- ---- a mark on a surface

-- an evaluation of the steps refused
abbrev pub Refuses : Priced Choice → Type 0
Refuses (refused n) = Unit {0}
Refuses (answered e n) = ⊥

abbrev is_refused : Priced Choice → Bool
is_refused (refused n) = true
is_refused (answered e n) = false

refuses : (p : Priced Choice) → Decides (is_refused p) (Refuses p)
refuses (refused n) = (λ e. tt, λ e. absurd (true≢false e))
refuses (answered e n) = (λ e. absurd (false≢true e), λ e h. h)

-- where the checks pass: 8 where the budget is below the price, else 9 where an evaluation refuses
abbrev work_number : ℕ → Priced Choice → ℕ
work_number budget p = or_else (when (ltb budget (price p)) 8) (or_else (when (is_refused p) 9) 0)

module _ (s : Surface) (mark : Vector3) (terms : Terms) (budget : ℕ) where
  -- an answer by the checks: the surface's number, 7, or that of the work, which takes its price or all
  by-checks : (P : Placing → Type 0)
      → ((n : ℕ) → refusal_of_surface s ≡ suc n → P (Placing.Refusal (suc n) 0))
      → (refusal_of_surface s ≡ 0 → sound_search mark terms ≡ false → P (Placing.Refusal 7 0))
      → (refusal_of_surface s ≡ 0 → sound_search mark terms ≡ true → P (placed s mark terms budget))
      → P (placed s mark terms budget)
  unfolding placed checked judged on_checked placed_by
  by-checks P unfit unsound work = by (refusal_of_surface s) refl
    where
      search : (b : Bool) → sound_search mark terms ≡ b → refusal_of_surface s ≡ 0 → P (placed s mark terms budget)
      search true t ok = work ok t
      search false t ok = rw (ok, t) (unsound ok t)

      by : (n : ℕ) → refusal_of_surface s ≡ n → P (placed s mark terms budget)
      by zero ok = search (sound_search mark terms) refl ok
      by (suc n) e = rw e (unfit n e)

  work-number : refusal_of_surface s ≡ 0 → sound_search mark terms ≡ true → Chart.number_of (placed s mark terms budget) ≡ work_number budget (steps_of s mark terms)
  unfolding Chart.number_of or_else
  work-number ok sound = by (ltb budget (price (steps_of s mark terms))) refl
    where
      told : (p : Priced Choice) → Chart.number_of (result_of terms p) ≡ or_else (when (is_refused p) 9) 0
      told (refused n) = refl
      told (answered e n) = refl

      by : (b : Bool) → ltb budget (price (steps_of s mark terms)) ≡ b → Chart.number_of (placed s mark terms budget) ≡ work_number budget (steps_of s mark terms)
      by true l = rw (answer-short terms s ok mark sound budget (ltb-true _ _ l), l) refl
      by false l = rw (answer-enough terms s ok mark sound budget (ltb-false _ _ l), l) (told (steps_of s mark terms))

  placed-refusal : Chart.number_of (placed s mark terms budget) ≡ or_else (refusal_of_surface s) (or_else (when (not (sound_search mark terms)) 7) (work_number budget (steps_of s mark terms)))
  unfolding Chart.number_of or_else
  placed-refusal =
      by-checks (λ g. Chart.number_of g ≡ or_else (refusal_of_surface s) (or_else (when (not (sound_search mark terms)) 7) (work_number budget (steps_of s mark terms))))
      (λ n e. rw e refl)
      (λ ok t. rw (ok, t) refl)
      (λ ok t. rw (ok, t) (work-number ok t))

  -- the surface's lines, 7 where check 7 fails, 8 where the budget is below the price, 9 where an evaluation of the plain steps refuses
  pub placed-number : (n : ℕ)
      → SurfaceLines s (Line (sound_search mark terms ≡ false) 7 (Line (budget < price (steps_of s mark terms)) 8 (Line (Refuses (steps_of s mark terms)) 9 None))) n
      ↔ (Chart.number_of (placed s mark terms budget) ≡ n)
  placed-number n =
      let p = steps_of s mark terms in
      let nine = tested None 0 refl 8 (is_refused p) (refuses p) in
      let eight = tested _ _ nine 7 (ltb budget (price p)) (above budget (price p)) in
      rw placed-refusal (numbered s _ (line-one (line-one (line-one none-one))) _ (tested _ _ eight 6 (not (sound_search mark terms)) (fails (sound_search mark terms))) n)

  work-left : refusal_of_surface s ≡ 0 → sound_search mark terms ≡ true → Chart.left_of budget (placed s mark terms budget) ≡ budget - price (steps_of s mark terms)
  unfolding Chart.left_of
  work-left ok sound = by (ltb budget (price (steps_of s mark terms))) refl
    where
      by : (b : Bool) → ltb budget (price (steps_of s mark terms)) ≡ b → Chart.left_of budget (placed s mark terms budget) ≡ budget - price (steps_of s mark terms)
      by true l = let h = ltb-true _ _ l in rw (answer-short terms s ok mark sound budget h) (omega (arith, h))
      by false l = rw (answer-enough terms s ok mark sound budget (ltb-false _ _ l)) (result-left terms budget (steps_of s mark terms))

  -- a check that refuses leaves the budget; else the price is taken of it, or all
  pub placed-left : Chart.left_of budget (placed s mark terms budget)
      ≡ budget - cond (passes s && sound_search mark terms) (price (steps_of s mark terms)) 0
  unfolding Chart.left_of
  placed-left =
      by-checks (λ g. Chart.left_of budget g ≡ budget - cond (passes s && sound_search mark terms) (price (steps_of s mark terms)) 0)
      (λ n e. rw e refl)
      (λ ok t. rw (ok, t) refl)
      (λ ok t. rw (ok, t) (work-left ok t))

-- ---- a call of one unit

charged-number : (sound : Bool) (budget : ℕ) (c : Components) → number_of (charged sound budget c) ≡ or_else (when (not sound) 7) (or_else (when (is_zero budget) 8) (number_of c))
unfolding charged number_of or_else
charged-number false budget c = refl
charged-number true zero c = refl
charged-number true (suc k) c = refl

-- where the call answers, it takes a unit
abbrev TakesUnit : Components → Type 0
TakesUnit c = (budget : ℕ) → left_of budget c ≡ budget - 1

charged-left : (sound : Bool) (budget : ℕ) (c : Components) → TakesUnit c → left_of budget (charged sound budget c) ≡ budget - cond sound 1 0
unfolding charged left_of
charged-left false budget c h = refl
charged-left true zero c h = refl
charged-left true (suc k) c h = h (suc k)

-- a mark on a plane: 7 where check 7 fails, 8 where there is no unit
pub plane-number : (f : Frame) (mark : Vector3) (budget n : ℕ) → Line (sound_plane f mark ≡ false) 7 (Line (budget ≡ 0) 8 None) n ↔ (number_of (placed_on f mark budget) ≡ n)
unfolding placed_on local_of number_of
plane-number f mark budget n =
    let eight = tested None 0 refl 7 (is_zero budget) (is-zero budget) in
    let seven = tested _ _ eight 6 (not (sound_plane f mark)) (fails (sound_plane f mark)) in
    rw charged-number (λ h. line-one (line-one none-one) _ _ seven h, λ e. subst (Line (sound_plane f mark ≡ false) 7 (Line (budget ≡ 0) 8 None)) e seven)

pub plane-left : (f : Frame) (mark : Vector3) (budget : ℕ) → left_of budget (placed_on f mark budget) ≡ budget - cond (sound_plane f mark) 1 0
unfolding placed_on local_of left_of
plane-left f mark budget = charged-left (sound_plane f mark) budget (local_of f mark) (λ b. refl)

pub plane-answers : (f : Frame) (mark : Vector3) (k : ℕ) → sound_plane f mark ≡ true → placed_on f mark (suc k) ≡ local_of f mark
unfolding placed_on charged
plane-answers f mark k sound = simp sound

-- ---- the derivative

-- "determinant not finite or at most 1e-24·a·c (a, c: squared lengths of the two first derivatives)"
abbrev pub is_flat : Jet → Bool
is_flat j =
    let a = dot j.u j.u in
    let b = dot j.u j.v in
    let c = dot j.v j.v in
    let det = a ⊗ c ⊖ b ⊗ b in
    not (is_finite det) || le det (1e-24 ⊗ a ⊗ c)

-- the same of an evaluation that is found
abbrev pub Flat : Evaluated → Type 0
Flat Refused = ⊥
Flat (Found j) = is_flat j ≡ true

-- 9 where the evaluation refuses, 10 where it is flat
abbrev JetLines : Evaluated → ℕ → Type 0
JetLines e = Line (e ≡ Refused) 9 (Line (Flat e) 10 None)

abbrev jet_number : Evaluated → ℕ
jet_number Refused = 9
jet_number (Found j) = or_else (when (is_flat j) 10) 0

jet-tested : (e : Evaluated) → JetLines e (jet_number e)
jet-tested Refused = this refl
jet-tested (Found j) = next (λ e. let z : ◌≡◌ {A = ℕ} 0 1 = cc in omega arith) (tested None 0 refl 9 (is_flat j) (holds (is_flat j)))
  where
    holds : (b : Bool) → Decides b (b ≡ true)
    holds true = (λ e. refl, λ e. absurd (true≢false e))
    holds false = (λ e. e, λ e h. true≢false (sym h))

module _ (d : Vector3) where
  moved-number : (e : Evaluated) → number_of (moved_from d e) ≡ jet_number e
  unfolding moved_from moved resolved number_of or_else
  moved-number Refused = refl
  moved-number (Found j) = by (is_flat j) _ _
    where
      by : (t : Bool) (x y : Float) → number_of (cond t (Refusal 10 1) (Along x y)) ≡ or_else (when t 10) 0
      by true x y = refl
      by false x y = refl

  moved-left : (e : Evaluated) → TakesUnit (moved_from d e)
  unfolding moved_from moved resolved left_of
  moved-left Refused budget = refl
  moved-left (Found j) budget = by (is_flat j) _ _
    where
      by : (t : Bool) (x y : Float) → left_of budget (cond t (Refusal 10 1) (Along x y)) ≡ budget - 1
      by true x y = refl
      by false x y = refl

module _ (s : Surface) (u v : Float) (d : Vector3) (budget : ℕ) where
  derived-refusal : number_of (derived s u v d budget)
      ≡ or_else (refusal_of_surface s) (or_else (when (not (finite_vector d)) 7) (or_else (when (is_zero budget) 8) (jet_number (evaluate_by s (scale_of s) u v))))
  unfolding derived checked judged on_checked or_else number_of
  derived-refusal = by (refusal_of_surface s)
    where
      work : number_of (charged (finite_vector d) budget (moved_from d (evaluate_by s (scale_of s) u v)))
          ≡ or_else (when (not (finite_vector d)) 7) (or_else (when (is_zero budget) 8) (jet_number (evaluate_by s (scale_of s) u v)))
      work = rw (← moved-number d (evaluate_by s (scale_of s) u v)) (charged-number (finite_vector d) budget (moved_from d (evaluate_by s (scale_of s) u v)))

      by : (n : ℕ) → number_of (on_checked (λ n. Refusal n 0) (judged (scale_of s) n) (λ m. charged (finite_vector d) budget (moved_from d (evaluate_by s m u v))))
          ≡ or_else n (or_else (when (not (finite_vector d)) 7) (or_else (when (is_zero budget) 8) (jet_number (evaluate_by s (scale_of s) u v))))
      by zero = work
      by (suc n) = refl

  -- the surface's lines, 7 where the vector is not finite, 8 where there is no unit, then 9 and 10
  pub derived-number : (n : ℕ)
      → SurfaceLines s (Line (finite_vector d ≡ false) 7 (Line (budget ≡ 0) 8 (Line (evaluate_by s (scale_of s) u v ≡ Refused) 9 (Line (Flat (evaluate_by s (scale_of s) u v)) 10 None)))) n
      ↔ (number_of (derived s u v d budget) ≡ n)
  derived-number n =
      let eight = tested _ _ (jet-tested (evaluate_by s (scale_of s) u v)) 7 (is_zero budget) (is-zero budget) in
      rw derived-refusal (numbered s _ (line-one (line-one (line-one (line-one none-one)))) _ (tested _ _ eight 6 (not (finite_vector d)) (fails (finite_vector d))) n)

  pub derived-left : left_of budget (derived s u v d budget) ≡ budget - cond (passes s && finite_vector d) 1 0
  unfolding derived checked judged on_checked left_of
  derived-left = by (refusal_of_surface s)
    where
      by : (n : ℕ) → left_of budget (on_checked (λ n. Refusal n 0) (judged (scale_of s) n) (λ m. charged (finite_vector d) budget (moved_from d (evaluate_by s m u v))))
          ≡ budget - cond (is_zero n && finite_vector d) 1 0
      by zero = charged-left (finite_vector d) budget (moved_from d (evaluate_by s (scale_of s) u v)) (moved-left d (evaluate_by s (scale_of s) u v))
      by (suc n) = refl

pub derived-answers : (s : Surface) (u v : Float) (d : Vector3) (k : ℕ) → refusal_of_surface s ≡ 0 → finite_vector d ≡ true → (j : Jet) → evaluate_by s (scale_of s) u v ≡ Found j
    → derived s u v d (suc k) ≡ moved d j
unfolding derived checked judged on_checked charged moved_from
derived-answers s u v d k ok finite j found = simp (ok, finite, found)
