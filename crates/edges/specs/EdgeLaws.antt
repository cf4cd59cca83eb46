-- When an edge collapses, and the number of an answer. Assumes nothing.
use Rattle.std.proofs.Math.Path.{◌≡◌, refl}
use Rattle.std.proofs.Common.{sym, ap, ◌∙◌, suc-add, add-suc, arith}
use Rattle.std.specs.Prelude.{Bool, true, false, not, cond, Float}
use Rattle.std.proofs.lemmas.Bool.{false≢true}
use Prim.Native.Nat.{ℕ, zero, suc, ◌+◌, ◌<◌}
use Rattle.std.proofs.Math.Nat.{zero-add, add-zero}
use Rattle.std.specs.Float.Ieee.{le}
use Rattle.float64.specs.Order.{le_trans}
use Rattle.vector3.specs.declared.Vector3.{Vector3}
use Rattle.vector3.specs.Vector3.{distance}
use Rattle.spline.specs.Each.{both}
use Rattle.patch.specs.declared.Jet.{Jet}
use Rattle.patch.specs.declared.Evaluated.{Evaluated}
use Rattle.patch.specs.declared.Evaluated.TheVariants as Eval
use Rattle.surface.specs.Surface.{Surface, scale_of, or_else, when, refusal_of_surface, judged, checked}
use Rattle.edges.specs.declared.side.Line.{Line}
use Rattle.edges.specs.declared.Singular.{Singular}
use Rattle.edges.specs.declared.Edge.{Edge}
use Rattle.edges.specs.declared.Edge.TheVariants.{Open, Collapsed}
use Rattle.edges.specs.Edges.{near, singular_at, jet_on, all_near, edge_by, edge_of, edges_of, sound_tolerance, tested, singular_by, singular, number_of}

-- ---- samples

-- found, and within the tolerance of p
pub record Near (tolerance : Float) (p : Vector3) (e : Evaluated) : Type 0 where
  pub jet : Jet
  pub found : e ≡ Eval.Found jet
  pub near : le (distance jet.point p) tolerance ≡ true

is-near : (tolerance : Float) (p : Vector3) (e : Evaluated) → near tolerance p e ≡ true → Near tolerance p e
unfolding near
is-near tolerance p Eval.Refused h = absurd (false≢true h)
is-near tolerance p (Eval.Found j) h = record { jet = j; found = refl; near = h }

near-is : (tolerance : Float) (p : Vector3) (e : Evaluated) → Near tolerance p e → near tolerance p e ≡ true
unfolding near
near-is tolerance p e n = ap (near tolerance p) n.found ∙ n.near

-- ---- an edge

module _ (eval : Float → Float → Evaluated) (l : Line) where
  module _ (tolerance : Float) (p : Vector3) where
    -- of n samples from number i on, the one m further
    all-near : (n i : ℕ) → all_near eval l tolerance p n i ≡ true → (m : ℕ) → m < n → Near tolerance p (jet_on eval l (m + i))
    unfolding all_near
    all-near (suc n) i h zero b = rw zero-add (is-near tolerance p (jet_on eval l i) (both (near tolerance p (jet_on eval l i)) _ h).0)
    all-near (suc n) i h (suc m) b = rw (suc-add, ← add-suc) (all-near n (suc i) (both (near tolerance p (jet_on eval l i)) _ h).1 m (omega arith))
    all-near zero i h m b = elim b [ ]

    near-all : (n i : ℕ) → ((m : ℕ) → m < n → Near tolerance p (jet_on eval l (m + i))) → all_near eval l tolerance p n i ≡ true
    unfolding all_near
    near-all zero i h = refl
    near-all (suc n) i h = simp (near-is tolerance p (jet_on eval l i) (rw zero-add at (h 0 (omega arith))), near-all n (suc i) (λ m b. rw (add-suc, ← suc-add) (h (suc m) (omega arith))))

  module _ (side : Float) where
    -- how an edge collapses to x: all nine samples are found within the tolerance of the middle one, which is x's point
    pub record Collapse (tolerance : Float) (x : Singular) : Type 0 where
      pub jet : Jet
      pub middle : jet_on eval l 4 ≡ Eval.Found jet
      pub is : x ≡ singular_at l side jet.point
      pub all : (i : ℕ) → i < 9 → Near tolerance jet.point (jet_on eval l i)

    module _ (tolerance : Float) (x : Singular) where
      by_all : (j : Jet) → jet_on eval l 4 ≡ Eval.Found j → (b : Bool) → all_near eval l tolerance j.point 9 0 ≡ b
          → cond b (Collapsed (singular_at l side j.point)) Open ≡ Collapsed x → Collapse tolerance x
      by_all j m true a h = record { jet = j; middle = m; is = cc; all = λ i b. rw add-zero at (all-near tolerance j.point 9 0 a i b) }
      by_all j m false a h = let z : ◌≡◌ {A = ℕ} 0 1 = cc in absurd (omega arith)

      by-middle : (e : Evaluated) → jet_on eval l 4 ≡ e → edge_by eval tolerance l side e ≡ Collapsed x → Collapse tolerance x
      unfolding edge_by
      by-middle Eval.Refused m h = let z : ◌≡◌ {A = ℕ} 0 1 = cc in absurd (omega arith)
      by-middle (Eval.Found j) m h = by_all j m (all_near eval l tolerance j.point 9 0) refl h

      pub collapse : edge_of eval tolerance l side ≡ Collapsed x → Collapse tolerance x
      unfolding edge_of
      collapse h = by-middle (jet_on eval l 4) refl h

      pub collapse-suffices : Collapse tolerance x → edge_of eval tolerance l side ≡ Collapsed x
      unfolding edge_of edge_by
      collapse-suffices c = simp (c.middle, near-all tolerance c.jet.point 9 0 (λ i b. rw add-zero (c.all i b)), c.is)

    -- a collapsed edge stays as it is under a larger tolerance
    pub wider : (t t' : Float) → le t t' ≡ true → (x : Singular) → edge_of eval t l side ≡ Collapsed x → edge_of eval t' l side ≡ Collapsed x
    wider t t' w x h =
        let c = collapse t x h in
        collapse-suffices t' x (record {
          jet = c.jet;
          middle = c.middle;
          is = c.is;
          all = λ i b. let n = c.all i b in record { jet = n.jet; found = n.found; near = le_trans _ t t' n.near w };
        })

    -- "an edge with a refused sample is skipped"
    pub skipped : (tolerance : Float) (i : ℕ) → i < 9 → jet_on eval l i ≡ Eval.Refused → edge_of eval tolerance l side ≡ Open
    skipped tolerance i b r = by (edge_of eval tolerance l side) refl
      where
        by : (e : Edge) → edge_of eval tolerance l side ≡ e → e ≡ Open
        by Open h = refl
        by (Collapsed x) h =
            let n = (collapse tolerance x h).all i b in
            let f : Eval.Refused ≡ Eval.Found n.jet = sym r ∙ n.found in
            let z : ◌≡◌ {A = ℕ} 0 1 = cc in
            absurd (omega arith)

-- ---- the call

pub answered : (s : Surface) (tolerance : Float) → refusal_of_surface s ≡ 0 → sound_tolerance tolerance ≡ true → singular s tolerance ≡ edges_of s (scale_of s) tolerance
unfolding singular checked judged singular_by tested
answered s tolerance ok sound = simp (ok, sound)

-- of the surface's checks the first that refuses, then 7 for the tolerance
pub number : (s : Surface) (tolerance : Float) → number_of (singular s tolerance) ≡ or_else (refusal_of_surface s) (when (not (sound_tolerance tolerance)) 7)
unfolding singular checked judged singular_by tested edges_of number_of or_else
number s tolerance = by (refusal_of_surface s)
  where
    sound : (b : Bool) → number_of (tested s (scale_of s) tolerance b) ≡ when (not b) 7
    sound true = refl
    sound false = refl

    by : (n : ℕ) → number_of (singular_by s (judged (scale_of s) n) tolerance) ≡ or_else n (when (not (sound_tolerance tolerance)) 7)
    by zero = sound (sound_tolerance tolerance)
    by (suc n) = refl
