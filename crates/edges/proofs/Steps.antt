-- The samples of an edge one by one, and the cases of an edge and of the call. Assumes nothing.
use mathlib.Core.Path.{◌≡◌, refl, sym, ◌∙◌}
use mathlib.Core.Bool.{Bool, true, false, ◌&&◌}
use Prim.Native.Nat.{ℕ, zero, suc, ◌+◌, ◌-◌, ◌<◌}
use native.Mathlib.Numerals.{add-one}
use native.Mathlib.Omega.{arith}
use lib.Ieee.{Float, le, neg}
use Rattle.float64.specs.Operators.{1·}
use Rattle.vector3.specs.declared.Vector3.{Vector3}
use Rattle.vector3.specs.Vector3.{distance}
use Rattle.patch.specs.declared.Jet.{Jet}
use Rattle.patch.specs.declared.Evaluated.{Evaluated}
use Rattle.patch.specs.declared.Evaluated.TheVariants as Eval
use Rattle.surface.specs.declared.Checked.{Checked}
use Rattle.surface.specs.declared.Checked.TheVariants as Check
use Rattle.domain.specs.declared.Domain.{Domain}
use Rattle.surface.specs.Surface.{Surface, checked, evaluate_by, domain_of}
use Rattle.domain.specs.Intervals.{eighth_of}
use Rattle.edges.specs.declared.side.Line.{Line}
use Rattle.edges.specs.declared.Edge.{Edge}
use Rattle.edges.specs.declared.Edge.TheVariants.{Open, Collapsed}
use Rattle.edges.specs.declared.Edges.{Edges}
use Rattle.edges.specs.declared.Edges.TheVariants.{Found, Refusal}
use Rattle.edges.specs.Edges.{line, near, singular_at, jet_at, jet_on, all_near, edge_by, edge_of, edges_of, sound_tolerance, tested, singular_by, singular}

-- ---- a sample

along-v : (eval : Float → Float → Evaluated) (k : ℕ) (value t : Float) → (k ≡ 0 → ⊥) → eval value t ≡ jet_at eval k value t
unfolding jet_at
along-v eval zero value t h = absurd (h refl)
along-v eval (suc k) value t h = refl

module _ (eval : Float → Float → Evaluated) (l : Line) (i : ℕ) {t : Float} (p : t ≡ eighth_of l.along.low l.along.high i) {e : Evaluated} where
  pub on-u : l.k ≡ 0 → e ≡ eval t l.value → e ≡ jet_on eval l i
  unfolding jet_at
  on-u h q = q ∙ simp (h, p)

  pub on-v : (l.k ≡ 0 → ⊥) → e ≡ eval l.value t → e ≡ jet_on eval l i
  on-v h q = q ∙ along-v eval l.k l.value t h ∙ simp p

module _ (tolerance : Float) (point : Vector3) {e : Evaluated} where
  pub found-near : {j : Jet} → e ≡ Eval.Found j → {d : Float} → d ≡ distance j.point point → le d tolerance ≡ near tolerance point e
  unfolding near
  found-near h q = simp (h, q)

  pub refused-near : e ≡ Eval.Refused → false ≡ near tolerance point e
  unfolding near
  refused-near h = simp h

-- ---- the samples of a line

module _ (eval : Float → Float → Evaluated) (l : Line) (tolerance : Float) (point : Vector3) where
  -- those from number i on
  abbrev pub from : ℕ → Bool
  from i = all_near eval l tolerance point (9 - i) i

  module _ {all : Bool} (i : ℕ) (w : all ≡ from i) where
    pub over : i ≡ 9 → true ≡ all
    unfolding all_near
    over h = sym (w ∙ rw h)

    module _ (b : i < 9) {e : Evaluated} (q : e ≡ jet_on eval l i) {n : Bool} (r : n ≡ near tolerance point e) where
      step : all ≡ (n && from (i + 1))
      unfolding all_near
      step =
          let more : 9 - i ≡ suc (9 - (i + 1)) = omega arith in
          w ∙ rw (more, r, q, add-one i)

      pub stops : n ≡ false → false ≡ all
      stops h = sym (step ∙ simp h)

      pub goes : n ≡ true → all ≡ from (i + 1)
      goes h = step ∙ simp h

-- ---- an edge, by its middle sample

module _ (eval : Float → Float → Evaluated) (tolerance : Float) (l : Line) (side : Float) {e : Evaluated} (q : e ≡ jet_on eval l 4) where
  pub no_middle : e ≡ Eval.Refused → Open ≡ edge_of eval tolerance l side
  unfolding edge_of edge_by
  no_middle h = simp (← q, h)

  module _ {j : Jet} (h : e ≡ Eval.Found j) {all : Bool} (s : all ≡ all_near eval l tolerance j.point 9 0) where
    pub stays_open : all ≡ false → Open ≡ edge_of eval tolerance l side
    unfolding edge_of edge_by
    stays_open n = simp (← q, h, ← s, n)

    pub collapses : all ≡ true → Collapsed (singular_at l side j.point) ≡ edge_of eval tolerance l side
    unfolding edge_of edge_by
    collapses n = simp (← q, h, ← s, n)

-- ---- the call

module _ (s : Surface) (tolerance : Float) where
  module _ (m : Float) {d : Domain} (e : d ≡ domain_of s) {a b c f : Line} (g : a ≡ line 0 d.u d.v.low) (h : b ≡ line 0 d.u d.v.high) (i : c ≡ line 1 d.v d.u.low) (j : f ≡ line 1 d.v d.u.high) where
    pub all_told : {p q r t : Edge} → p ≡ edge_of (evaluate_by s m) tolerance a 1· → q ≡ edge_of (evaluate_by s m) tolerance b (neg 1·)
        → r ≡ edge_of (evaluate_by s m) tolerance c 1· → t ≡ edge_of (evaluate_by s m) tolerance f (neg 1·) → Found p q r t ≡ edges_of s m tolerance
    unfolding edges_of
    all_told p q r t = simp (p, q, r, t, g, h, i, j, e)

  module _ (m : Float) {b : Bool} (e : b ≡ sound_tolerance tolerance) where
    pub not_sound : b ≡ false → Refusal 7 ≡ tested s m tolerance (sound_tolerance tolerance)
    unfolding tested
    not_sound h = simp (← e, h)

    pub found : b ≡ true → {r : Edges} → r ≡ edges_of s m tolerance → r ≡ tested s m tolerance (sound_tolerance tolerance)
    unfolding tested
    found h q = q ∙ simp (← e, h)

  module _ {c : Checked} (e : c ≡ checked s) where
    pub refused : {n : ℕ} → c ≡ Check.Refusal n → Refusal n ≡ singular s tolerance
    unfolding singular singular_by
    refused h = simp (← e, h)

    pub passed : {m : Float} → c ≡ Check.Scale m → {r : Edges} → r ≡ tested s m tolerance (sound_tolerance tolerance) → r ≡ singular s tolerance
    unfolding singular singular_by
    passed h q = q ∙ simp (← e, h)
