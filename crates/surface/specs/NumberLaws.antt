-- Which number `check` and `evaluate` answer: that of the first line of 01's table whose cause holds, and 0 where none does. Assumes nothing.
use Rattle.std.proofs.Math.Path.{◌≡◌, refl}
use Rattle.std.proofs.Common.{sym, ap, ◌∙◌, subst, inl, inr, ⊎_elim, arith}
use Rattle.std.specs.Prelude.{Bool, not, cond, ◌&&◌, ◌||◌, List, [], ◌∷◌, ◌↔◌, ◌⊎◌, ltb, eqb, length, Float}
use Rattle.std.proofs.Math.Bool.{true, false, or_assoc, true≢false}
use Rattle.std.proofs.lemmas.Bool.{false≢true}
use Prim.Native.Nat.{ℕ, zero, suc, ◌<◌}
use Rattle.std.specs.Float.Ieee.{lt, eq}
use borrow.Author.Tests.{ltb-true, ltb-false, eqb-true, eqb-false, not-true, not-false}
use Rattle.float64.specs.Operators.{◌⊘◌, 0·}
use Rattle.float64.specs.Functions.{is_finite}
use Rattle.spline.specs.declared.weights.Weighed.TheVariants as Weighed
use Rattle.spline.specs.Weights.{is_empty, sound, largest, vanishing, weighed, refusal_of}
use Rattle.spline.specs.WeightLaws.{sound-each}
use Rattle.spline.specs.Knots.{Axis, accepted_knots, refusal_of_knots}
use Rattle.spline.specs.Each.{Each, each_at}
use Rattle.patch.specs.declared.Jet.{Jet}
use Rattle.patch.specs.declared.Evaluated.{Evaluated}
use Rattle.patch.specs.declared.Evaluated.TheVariants as Eval
use Rattle.patch.specs.Laws.{FiniteJet}
use Rattle.surface.specs.declared.Checked.TheVariants as Check
use Rattle.surface.specs.declared.Evaluation.TheVariants.{Found}
use Rattle.domain.specs.declared.Window.{Window}
use Rattle.domain.specs.declared.Window.TheVariants.{Whole, Within}
use Rattle.domain.specs.declared.Interval.{Interval}
use Rattle.domain.specs.declared.Domain.{Domain}
use Rattle.domain.specs.Windows.{misfits_on, misfits}
use Rattle.surface.specs.Surface.{Surface, axis_u, axis_v, domain_of, or_else, when, too_large, miscounted, refusal_of_surface, scale_of, judged, checked, evaluate_by, or_nine, evaluated_by, evaluated, number_of_checked, number_of}
use Rattle.surface.specs.Refusals.{Line, this, next, None, TooLarge, Miscounted, Some, Unweighed, KnotLines, Misfit, Unwindowed, AxisLines, SurfaceLines}
use Rattle.surface.specs.SurfaceLaws.{finite-each, some-fails}
use Rattle.surface.specs.EvaluateLaws.{evaluate-finite}

-- ---- lines answer one number

abbrev pub One : (ℕ → Type 0) → Type 0
One P = (m n : ℕ) → P m → P n → m ≡ n

pub none-one : One None
none-one m n h k = h ∙ sym k

pub line-one : {cause : Type 0} {number : ℕ} {later : ℕ → Type 0} → One later → One (Line cause number later)
line-one one _ _ (this h) (this k) = refl
line-one one _ _ (this h) (next k l) = absurd (k h)
line-one one _ _ (next h l) (this k) = absurd (h k)
line-one one _ _ (next h l) (next k r) = one _ _ l r

-- ---- the checks answer it

or-else-assoc : (a b c : ℕ) → or_else (or_else a b) c ≡ or_else a (or_else b c)
unfolding or_else
or-else-assoc zero b c = refl
or-else-assoc (suc a) b c = refl

-- the test passes where the cause holds, and only there
abbrev pub Decides : Bool → Type 0 → Type 0
Decides b cause = (b ≡ true → cause) × (b ≡ false → cause → ⊥)

pub above : (m n : ℕ) → Decides (ltb m n) (m < n)
above m n = (ltb-true m n, λ e h. omega (arith, ltb-false m n e))

unequal : (m n : ℕ) → Decides (not (eqb m n)) (m ≡ n → ⊥)
unequal m n = (λ e. eqb-false m n (not-true _ e), λ e h. h (eqb-true m n (not-false _ e)))

either : {C D : Type 0} (b c : Bool) → Decides b C → Decides c D → Decides (b || c) (C ⊎ D)
either true c p q = (λ e. inl (p.0 refl), λ e. absurd (true≢false e))
either false true p q = (λ e. inr (q.0 refl), λ e. absurd (true≢false e))
either false false p q = (λ e. absurd (false≢true e), λ e. ⊎_elim (p.1 refl) (q.1 refl))

not-both : (b c : Bool) → not (b && c) ≡ (not b || not c)
not-both true c = refl
not-both false c = refl

pub large : (s : Surface) → Decides (too_large s) (TooLarge s)
unfolding too_large
large s = either _ _ (above _ _) (above _ _)

wrong-counts : (s : Surface) → Decides (miscounted s) (Miscounted s)
unfolding miscounted
wrong-counts s = rw not-both (either _ _ (unequal _ _) (unequal _ _))

-- a test of each number that one of them fails
some-failing : {one : Float → Bool} {all : List Float → Bool} → Each (λ x xs. one x) all → (xs : List Float) → Decides (not (all xs)) (Some xs (λ x. one x ≡ false))
some-failing each xs = (λ e. some-fails each xs (not-true _ e), λ e n. true≢false (sym (each_at each xs n.0 (not-false _ e) n.1) ∙ n.2))

empty : (ws : List Float) → Decides (is_empty ws) (length ws ≡ 0)
unfolding is_empty
empty [] = (λ e. refl, λ e. absurd (true≢false e))
empty (w ∷ ws) = (λ e. absurd (false≢true e), λ e h. omega arith)

not-either : (b c : Bool) → not (b || c) ≡ (not b && not c)
not-either true c = refl
not-either false c = refl

vanishes : (m : Float) (ws : List Float) → Decides (vanishing m ws) (Some ws (λ w. eq (w ⊘ m) 0· ≡ true))
unfolding vanishing
vanishes m ws =
    let d = some-failing {one = λ w. not (eq (w ⊘ m) 0·)} {all = λ ws. not (vanishing m ws)} (record { none = refl; more = λ w ws. not-either (eq (w ⊘ m) 0·) (vanishing m ws) }) ws in
    (λ e. let n = d.0 (ap (λ b. not (not b)) e) in (n.0, n.1, not-false _ n.2), λ e n. d.1 (ap (λ b. not (not b)) e) (n.0, n.1, ap not n.2))

unweighed : (ws : List Float) → Decides (is_empty ws || not (sound ws) || vanishing (largest 0· ws) ws) (Unweighed ws)
unweighed ws = rw or_assoc (either _ _ (empty ws) (either _ _ (some-failing sound-each ws) (vanishes (largest 0· ws) ws)))

-- a test and its negation
fails : (b : Bool) → Decides (not b) (b ≡ false)
fails true = (λ e. absurd (false≢true e), λ e f. true≢false f)
fails false = (λ e. refl, λ e. absurd (true≢false e))

passes : (b : Bool) → Decides b (b ≡ true)
passes true = (λ e. refl, λ e. absurd (true≢false e))
passes false = (λ e. absurd (false≢true e), λ e f. false≢true f)

both : {C D : Type 0} (b c : Bool) → Decides b C → Decides c D → Decides (b && c) (C × D)
both true true p q = (λ e. (p.0 refl, q.0 refl), λ e. absurd (true≢false e))
both true false p q = (λ e. absurd (false≢true e), λ e h. q.1 refl h.1)
both false c p q = (λ e. absurd (false≢true e), λ e h. p.1 refl h.0)

misfit : (i : Interval) (lo hi : Float) → Decides (misfits_on i lo hi) (Misfit i lo hi)
unfolding misfits_on
misfit i lo hi =
    simp or_assoc
    (either _ _ (fails (is_finite lo))
    (either _ _ (fails (is_finite hi))
    (either _ _ (fails (lt lo hi)) (either _ _ (passes (lt lo i.low)) (either _ _ (passes (lt i.high hi)) (both _ _ (passes i.periodic) (fails (eq lo i.low && eq hi i.high))))))))

unwindowed : (w : Window) (d : Domain) → Decides (misfits w d) (Unwindowed w d)
unfolding misfits
unwindowed Whole d = (λ e. absurd (false≢true e), λ e h. h)
unwindowed (Within a b c e) d = either _ _ (misfit d.u a b) (misfit d.v c e)

module _ (later : ℕ → Type 0) (n : ℕ) (l : later n) where
  -- a line that is tested before what later lines answer
  pub tested : {cause : Type 0} (k : ℕ) (b : Bool) → Decides b cause → Line cause (suc k) later (or_else (when b (suc k)) n)
  unfolding or_else
  tested k true d = this (d.0 refl)
  tested k false d = next (d.1 refl) l

  weights-tested : (ws : List Float) → Line (Unweighed ws) 4 later (or_else (refusal_of (weighed ws)) n)
  unfolding or_else refusal_of weighed
  weights-tested ws = by _ (unweighed ws)
    where
      by : (b : Bool) → Decides b (Unweighed ws) → Line (Unweighed ws) 4 later (or_else (refusal_of (cond b Weighed.Refused (Weighed.Scale (largest 0· ws)))) n)
      by true d = this (d.0 refl)
      by false d = next (d.1 refl) l

  knots-tested : (a : Axis) → KnotLines a later (or_else (refusal_of_knots a) n)
  unfolding or_else refusal_of_knots
  knots-tested a = by _ (accepted_knots a) refl (either _ _ (eqb-true a.degree 0, eqb-false a.degree 0) (above 16 a.degree))
    where
      by : (d t : Bool) → accepted_knots a ≡ t → Decides d ((a.degree ≡ 0) ⊎ (16 < a.degree)) → KnotLines a later (or_else (cond d 5 (cond t 0 6)) n)
      by true t e d = this (d.0 refl)
      by false true e d = next (d.1 refl) (next (λ f. true≢false (sym e ∙ f)) l)
      by false false e d = next (d.1 refl) (this e)

module _ (s : Surface) (later : ℕ → Type 0) where
  pub axes-tested : (n : ℕ) → later n → AxisLines s later (or_else (refusal_of_knots (axis_u s)) (or_else (refusal_of_knots (axis_v s)) (or_else (when (misfits s.shape.window (domain_of s)) 24) n)))
  axes-tested n l =
      let window = tested later n l 23 _ (unwindowed s.shape.window (domain_of s)) in
      let v = knots-tested _ _ window (axis_v s) in
      knots-tested _ _ v (axis_u s)

  surface-tested : (n : ℕ) → later n → SurfaceLines s later (or_else (refusal_of_surface s) n)
  unfolding refusal_of_surface
  surface-tested n l =
      let four = weights-tested _ _ (axes-tested n l) s.weights in
      let three = tested _ _ four 2 _ (some-failing finite-each s.controls) in
      let two = tested _ _ three 1 _ (wrong-counts s) in
      simp or-else-assoc (tested _ _ two 0 _ (large s))

  -- where the lines after the surface's answer m, all of them answer `or_else (refusal_of_surface s) m` and nothing else
  pub numbered : One later → (m : ℕ) → later m → (n : ℕ) → SurfaceLines s later n ↔ (or_else (refusal_of_surface s) m ≡ n)
  numbered one m l n = (
    λ h. line-one (line-one (line-one (line-one (line-one (line-one (line-one (line-one (line-one one)))))))) _ _ (surface-tested m l) h,
    λ e. subst (SurfaceLines s later) e (surface-tested m l),
  )

pub or_else_none : (n : ℕ) → or_else n 0 ≡ n
unfolding or_else
or_else_none zero = refl
or_else_none (suc n) = refl

-- ---- `check`

module _ (s : Surface) where
  check-refusal : number_of_checked (checked s) ≡ refusal_of_surface s
  unfolding checked judged number_of_checked
  check-refusal = by (refusal_of_surface s)
    where
      by : (n : ℕ) → number_of_checked (judged (scale_of s) n) ≡ n
      by zero = refl
      by (suc n) = refl

  -- "A number is returned where its line holds and never elsewhere"
  pub check-number : (n : ℕ) → SurfaceLines s None n ↔ (number_of_checked (checked s) ≡ n)
  check-number n = rw (check-refusal, ← or_else_none (refusal_of_surface s)) (numbered s None none-one 0 refl n)

  -- where no line holds it answers the largest weight
  pub check-scale : refusal_of_surface s ≡ 0 → checked s ≡ Check.Scale (scale_of s)
  unfolding checked judged
  check-scale ok = simp ok

-- ---- `evaluate`

module _ (s : Surface) (x y : Float) where
  refusal_of_jet : Evaluated → ℕ
  refusal_of_jet Eval.Refused = 9
  refusal_of_jet (Eval.Found j) = 0

  evaluate-refusal : number_of (evaluated s x y) ≡ or_else (refusal_of_surface s) (refusal_of_jet (evaluate_by s (scale_of s) x y))
  unfolding evaluated checked judged evaluated_by or_nine number_of or_else refusal_of_jet
  evaluate-refusal = by (refusal_of_surface s)
    where
      nine : (e : Evaluated) → number_of (or_nine e) ≡ refusal_of_jet e
      nine Eval.Refused = refl
      nine (Eval.Found j) = refl

      by : (n : ℕ) → number_of (evaluated_by s (judged (scale_of s) n) x y) ≡ or_else n (refusal_of_jet (evaluate_by s (scale_of s) x y))
      by zero = nine (evaluate_by s (scale_of s) x y)
      by (suc n) = refl

  jet-tested : (e : Evaluated) → Line (e ≡ Eval.Refused) 9 None (refusal_of_jet e)
  unfolding refusal_of_jet
  jet-tested Eval.Refused = this refl
  jet-tested (Eval.Found j) = next (λ e. let z : ◌≡◌ {A = ℕ} 0 1 = cc in omega arith) refl

  -- the surface's lines, and then 9 where the evaluation by the largest weight refuses
  pub evaluate-number : (n : ℕ) → SurfaceLines s (Line (evaluate_by s (scale_of s) x y ≡ Eval.Refused) 9 None) n ↔ (number_of (evaluated s x y) ≡ n)
  evaluate-number n = rw evaluate-refusal (numbered s _ (line-one none-one) _ (jet-tested (evaluate_by s (scale_of s) x y)) n)

  module _ (j : Jet) where
    -- a jet is found where no line holds, and it is that of the evaluation by the largest weight
    pub evaluate-found : (evaluated s x y ≡ Found j) ↔ ((refusal_of_surface s ≡ 0) × (evaluate_by s (scale_of s) x y ≡ Eval.Found j))
    unfolding evaluated checked judged evaluated_by or_nine
    evaluate-found = (by (refusal_of_surface s), λ h. simp (h.0, h.1))
      where
        jet : (e : Evaluated) → or_nine e ≡ Found j → e ≡ Eval.Found j
        jet Eval.Refused h = let z : ◌≡◌ {A = ℕ} 0 1 = cc in absurd (omega arith)
        jet (Eval.Found k) h = cc

        by : (n : ℕ) → evaluated_by s (judged (scale_of s) n) x y ≡ Found j → (n ≡ 0) × (evaluate_by s (scale_of s) x y ≡ Eval.Found j)
        by zero h = (refl, jet _ h)
        by (suc n) h = let z : ◌≡◌ {A = ℕ} 0 1 = cc in absurd (omega arith)

    -- all nine numbers that `evaluate` finds are finite
    pub found-finite : evaluated s x y ≡ Found j → FiniteJet j
    found-finite h = evaluate-finite s (scale_of s) x y j (evaluate-found.0 h).1
