-- The table of functions as it is filled, and the net of weights as the grid is walked. Assumes nothing.
use mathlib.Core.Path.{◌≡◌, refl, sym, ap, ◌∙◌}
use mathlib.Core.Bool.{Bool, true, false, not, ◌&&◌, and-eq-true_iff, false≢true}
use mathlib.Core.List.{List, []}
use Prim.Native.Nat.{ℕ, suc, ◌+◌, ◌-◌, ◌≤◌, ◌<◌}
use native.Mathlib.Omega.{arith}
use lib.Dec.{eqb}
use borrow.Author.Tests.{eqb-true, eqb-false, ne_eqb, not-true}
use lib.ListN.{length, get_or, set, replicate, length-set, length-replicate, get_or-replicate}
use lib.Seq.{get_or-set_same, get_or-set_other}
use lib.Ieee.{Float, nan, le}
use Rattle.float64.specs.Operators.{0·}
use Rattle.spline.specs.Knots.{refusal_of_knots}
use Rattle.spline.specs.KnotLaws.{accepted}
use Rattle.basis.specs.declared.Place.{Place}
use Rattle.basis.specs.Parts.{value_of, part_of, shown_part}
use Rattle.vector3.specs.declared.Vector3.{Vector3}
use Rattle.patch.specs.declared.Sum.{Sum}
use Rattle.patch.specs.declared.Jet.{Jet}
use Rattle.patch.specs.declared.Evaluated.{Evaluated}
use Rattle.patch.specs.Patch.{jet_of_sums}
use Rattle.patch.specs.Patch as Patch
use Rattle.domain.specs.declared.Counts.{Counts}
use Rattle.surface.specs.Surface.{Surface, surface, evaluate_by}
use Rattle.domain.specs.Intervals.{axis_of}
use Rattle.surface.specs.Lent.{sample_on}
use Rattle.net.specs.Net.{WeighedNet, sum_by}
use Rattle.scaled.specs.declared.Accepted.{Accepted}
use Rattle.scaled.specs.Accepted.{not-refused, largest-is}
use Rattle.scaled.specs.Magnitude.{least_weight}
use Rattle.scaled.specs.PartLaws.{values-below, patch-of, point-found}
use Rattle.seeds.specs.declared.Node.{Node}
use Rattle.seeds.specs.declared.Located.{Located}
use Rattle.seeds.specs.declared.Located.TheVariants.{At, Refused}
use Rattle.seeds.specs.Table.{located, Known, Tabled, NetFor, Starting, Prepared}

-- ---- the functions of one value, by where they start

module _ (n : Counts) (ks : List Float) (t : Float) (p : Place) (row : List Float) (found : p.found ≡ true) (e : shown_part n.degree p row ≡ part_of value_of (sample_on n ks t)) where
  pub known : {bounded : Bool} → bounded ≡ true → Known bounded n ks t (p.start + 1) row
  unfolding shown_part
  known b = λ i h.
      let q : p.start ≡ i = omega arith in
      (b, rw (← q) (simp found at e))

  pub start_fits : refusal_of_knots (axis_of n ks) ≡ 0 → p.start < 100000
  start_fits h = let a = accepted (axis_of n ks) h in omega (arith, values-below n ks t p row h found e)

-- ---- the table

abbrev blank : List Float
blank = replicate 18 0·

module _ (bounded : Bool) (n : Counts) (ks ts : List Float) where
  pub none-tabled : {table : List (List Float)} {firsts : List ℕ} → table ≡ replicate 193 blank → length firsts ≡ 193 → Tabled bounded n ks ts 0 table firsts
  none-tabled e f = record { rows = ap length e ∙ length-replicate 193 blank; places = f; known = λ j h. absurd (omega arith) }

  module _ {j : ℕ} {table : List (List Float)} {firsts : List ℕ} (t : Tabled bounded n ks ts j table firsts) (h : j < 193) (row : List Float) (first : ℕ) where
    pub one-tabled : Known bounded n ks (get_or ts j nan) first row → Tabled bounded n ks ts (j + 1) (set table j row) (set firsts j first)
    one-tabled e = record {
      rows = simp length-set t.rows;
      places = simp length-set t.places;
      known = λ k l. by k l (eqb k j) refl;
    }
      where
        by : (k : ℕ) → k < j + 1 → (b : Bool) → eqb k j ≡ b → Known bounded n ks (get_or ts k nan) (get_or (set firsts j first) k 0) (get_or (set table j row) k [])
        by k l true q =
            let p : k ≡ j = eqb-true k j q in
            rw (p, get_or-set_same firsts j first 0 (omega (arith, t.places)), get_or-set_same table j row [] (omega (arith, t.rows))) e
        by k l false q =
            let p = eqb-false k j q in
            let below : k < j = omega (arith, p) in
            rw (get_or-set_other firsts j k first 0 p, get_or-set_other table j k row [] p) (t.known k below)

-- no values yet, from j on
abbrev pub Blank : List (List Float) → ℕ → Type 0
Blank table j = (k : ℕ) → j ≤ k → k < 193 → get_or table k [] ≡ blank

pub all-blank : {table : List (List Float)} → table ≡ replicate 193 blank → (j : ℕ) → Blank table j
all-blank e j = λ k h l. rw e (get_or-replicate 193 k blank [] l)

pub rest-blank : (table : List (List Float)) (j : ℕ) (row : List Float) → Blank table j → Blank (set table j row) (j + 1)
rest-blank table j row b = λ k l m. get_or-set_other table j k row [] (λ q. absurd (omega arith)) ∙ b k (omega arith) m

-- ---- the net

-- both start, or not both
module _ (row column : ℕ) where
  pub both-start : (not (eqb row 0) && not (eqb column 0)) ≡ true → (0 < row) × (0 < column)
  both-start h =
      let z = (and-eq-true_iff (not (eqb row 0)) (not (eqb column 0))).0 h in
      let a : row ≡ 0 → ⊥ = eqb-false row 0 (not-true _ z.0) in
      let b : column ≡ 0 → ⊥ = eqb-false column 0 (not-true _ z.1) in
      (omega (arith, a), omega (arith, b))

  not-both : (not (eqb row 0) && not (eqb column 0)) ≡ false → (i j : ℕ) → row ≡ suc i → column ≡ suc j → ⊥
  not-both h i j e f =
      let a = ne_eqb row 0 (λ q. omega arith) in
      let b = ne_eqb column 0 (λ q. omega arith) in
      false≢true (sym h ∙ simp (a, b))

module _ {a : Accepted} {ws : List Float} {row : ℕ} {net : List Float} where
  pub none-weighed : length net ≡ 289 → NetFor a ws row 0 net
  none-weighed n = record { whole = n; weighed = λ i j e f. absurd (omega arith) }

  module _ {column : ℕ} where
    pub newly-weighed : 0 < row → 0 < column → WeighedNet a.shape ws a.largest (row - 1) (column - 1) net → NetFor a ws row column net
    newly-weighed r c w = record { whole = w.whole; weighed = λ i j e f. by i j (omega arith) (omega arith) }
      where
        by : (i j : ℕ) → row - 1 ≡ i → column - 1 ≡ j → WeighedNet a.shape ws a.largest i j net
        by i j e f = rw (← e, ← f) w

    module _ {weighed : ℕ} (h : NetFor a ws row weighed net) where
      pub still-weighed : weighed ≡ column → NetFor a ws row column net
      still-weighed e = rw e at h

      -- one of the two does not start
      pub unweighed : (not (eqb row 0) && not (eqb column 0)) ≡ false → NetFor a ws row column net
      unweighed t = record { whole = h.whole; weighed = λ i j e f. absurd (not-both row column t i j e f) }

-- ---- the point of an evaluation

point-of : {e : Evaluated} (value a b : Sum) {p : Vector3} → e ≡ Evaluated.Found (jet_of_sums value a b) → p ≡ Patch.point_of value → At p ≡ located e
unfolding located jet_of_sums
point-of value a b h q = rw (h, q)

module _ {a : Accepted} {ku kv cs ws : List Float} {n : Node} {us vs net : List Float} (p : Prepared a (surface a.shape ku kv cs ws) n us vs net) where
  abbrev of : Surface
  of = surface a.shape ku kv cs ws

  abbrev from : ℕ → Place
  from first = record { found = true; start = first - 1 }

  -- both start
  module _ (b : (0 < n.row) × (0 < n.column)) where
    values_u : (a.bounded ≡ true) × (shown_part a.shape.u.degree (from n.row) us ≡ part_of value_of (sample_on a.shape.u ku n.u))
    values_u = p.functions_u (n.row - 1) (omega arith)

    values_v : (a.bounded ≡ true) × (shown_part a.shape.v.degree (from n.column) vs ≡ part_of value_of (sample_on a.shape.v kv n.v))
    values_v = p.functions_v (n.column - 1) (omega arith)

    pub starting : Starting a n
    starting = record {
      row = b.0;
      column = b.1;
      patch = patch-of of (not-refused p.accepts) n.u n.v (from n.row) (from n.column) us vs refl refl values_u.1 values_v.1;
    }

    pub found-there : {next : List Float} → NetFor a ws n.row n.column next → {value : Sum} → value ≡ sum_by of.shape of.controls (n.row - 1) (n.column - 1) next us vs → le least_weight value.w ≡ true
        → {q : Vector3} → q ≡ Patch.point_of value → At q ≡ located (evaluate_by of a.largest n.u n.v)
    found-there {next} w {value} h heavy e =
        let l = largest-is p.accepts in
        let here = w.weighed (n.row - 1) (n.column - 1) (omega arith) (omega arith) in
        let z = point-found of (not-refused p.accepts) n.u n.v (from n.row) (from n.column) us vs refl refl values_u.1 values_v.1 (p.accepts.bounded values_u.0) next (rw l at here) (rw h at heavy) in
        rw l (point-of value z.0 z.1 (rw h z.2) e)

-- what a point says of its evaluation
pub record Shows (e : Evaluated) (p : Vector3) : Type 0 where
  pub jet : Jet
  pub found : e ≡ Evaluated.Found jet
  pub point : p ≡ jet.point

pub shown : (e : Evaluated) {l : Located} {p : Vector3} → l ≡ located e → l ≡ At p → Shows e p
unfolding located
shown Evaluated.Refused h k = let z : ◌≡◌ {A = ℕ} 0 1 = cc in absurd (omega arith)
shown (Evaluated.Found j) h k = record { jet = j; found = refl; point = cc }

pub not-shown : (e : Evaluated) {l : Located} → l ≡ located e → l ≡ Refused → e ≡ Evaluated.Refused
unfolding located
not-shown Evaluated.Refused h k = refl
not-shown (Evaluated.Found j) h k = let z : ◌≡◌ {A = ℕ} 0 1 = cc in absurd (omega arith)
