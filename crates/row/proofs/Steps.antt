-- The cases of a row, and one mark of it after another. Assumes nothing.
use mathlib.Core.Path.{◌≡◌, refl, sym, ap, ◌∙◌}
use mathlib.Core.Bool.{Bool, true, false}
use mathlib.Core.List.{List, [], ◌∷◌, ◌++◌, append_assoc, append-nil}
use Prim.Native.Nat.{ℕ, zero, suc, ◌≤◌, ◌+◌, ◌-◌, ◌*◌}
use native.Mathlib.Omega.{arith}
use lib.ListN.{length, take, drop, get_or, set, length-drop, length-append, drop_of_length-le, take-append-drop}
use lib.Seq.{take_all, length-take-le, take-append-add, drop-append-add, drop-cons, drop-drop}
use lib.Ieee.{Float, nan}
use borrow.Rule.Slice.PartMut.{put_mid, mid_of, put_same}
use Rattle.vector3.specs.declared.Vector3.{Vector3}
use Rattle.surface.specs.declared.Checked.TheVariants as Check
use Rattle.surface.specs.Surface.{Surface, or_else, refusal_of_surface, checked}
use Rattle.surface.specs.SurfaceLaws.{checked-scale}
use Rattle.inversion.specs.declared.Choice.{Choice}
use Rattle.chart.specs.declared.Terms.{Terms}
use Rattle.chart.specs.Chart.{sound_terms}
use Rattle.inverter.specs.PlacingLaws.{refusal-number}
use Rattle.row_step.specs.declared.Progress.{Progress}
use Rattle.row_step.specs.declared.Stepped.{Stepped}
use Rattle.row_step.specs.declared.Stepped.TheVariants.{Placed, Refusal}
use Rattle.row_step.specs.Step.{stepped}
use Rattle.row.specs.declared.RowEnd.{RowEnd}
use Rattle.row.specs.Row.{Entry, Rowed, marks_of, refused_at, preceded, and_then, in_turn, unless_refused, rowed, misfit, row_into, listed, written, u_of, v_of, end_of, origin_of, Left, leaving}
use Rattle.row.specs.Turns.{mark_at, fronted}

-- ---- a buffer that takes two of each mark

module _ {A : Type 0} (first second : Choice → A) where
  pub stays : (xs : List A) {g : Stepped} {n t : ℕ} → g ≡ Refusal n t → xs ≡ fronted first second g xs
  unfolding fronted
  stays xs p = simp p

  pub fronts : (xs : List A) (c : Choice) (p : Progress) → 2 ≤ length xs → set (set xs 0 (first c)) 1 (second c) ≡ fronted first second (Placed c p) xs
  unfolding fronted
  fronts [] c p h = absurd (omega arith)
  fronts (x ∷ []) c p h = absurd (omega arith)
  fronts (x ∷ (y ∷ xs)) c p h = refl

  nothing_written : (xs : List A) → xs ≡ written first second [] xs
  unfolding written listed
  nothing_written xs = refl

  written-more : (p : Entry) (ps : List Entry) (xs : List A) → written first second (p ∷ ps) xs ≡ first p.choice ∷ second p.choice ∷ written first second ps (drop 2 xs)
  unfolding written listed
  written-more p ps xs =
      let u = first p.choice in
      let v = second p.choice in
      let e : 2 * length (p ∷ ps) ≡ 2 + 2 * length ps = omega arith in
      ap (λ (k : ℕ). u ∷ v ∷ listed first second ps ++ drop k xs) e
      ∙ ap (λ (l : List A). u ∷ v ∷ listed first second ps ++ l) (sym (drop-drop (2 * length ps) 2 xs))

  -- once the two are written at a
  abbrev after : List A → ℕ → Choice → List A
  after xs a c = take a xs ++ first c ∷ second c ∷ drop 2 (drop a xs)

  module _ (xs ys : List A) (a : ℕ) {g : Stepped} (e : ys ≡ fronted first second g (mid_of a (length xs - a) xs)) where
    back-refused : {n t : ℕ} → g ≡ Refusal n t → put_mid a (length xs - a) xs ys ≡ xs
    back-refused p = rw (e ∙ sym (stays (mid_of a (length xs - a) xs) p)) (put_same a (length xs - a) xs)

    back-placed : {c : Choice} {q : Progress} → g ≡ Placed c q → put_mid a (length xs - a) xs ys ≡ after xs a c
    unfolding fronted
    back-placed {c} p =
        let u = first c in
        let v = second c in
        let n : length (drop a xs) ≡ length xs - a = length-drop a xs in
        let w : mid_of a (length xs - a) xs ≡ drop a xs = take_all (length xs - a) (drop a xs) (omega arith) in
        let z : drop (length xs - a) (drop a xs) ≡ [] = drop_of_length-le (drop a xs) {i = length xs - a} (omega arith) in
        let f : ys ≡ u ∷ v ∷ drop 2 (drop a xs) = e ∙ simp (p, w) in
        simp (f, z) (ap (λ (l : List A). take a xs ++ u ∷ v ∷ l) (append-nil (drop 2 (drop a xs))))

  module _ (xs : List A) (a : ℕ) (c : Choice) (h : a + 2 ≤ length xs) where
    front : (b : ℕ) → b ≡ a + 2 → take b (after xs a c) ≡ take a xs ++ first c ∷ second c ∷ []
    front b e =
        let q : length (take a xs) ≡ a = length-take-le a xs (omega arith) in
        let f : b ≡ length (take a xs) + 2 = omega arith in
        ap (λ (k : ℕ). take k (after xs a c)) f ∙ take-append-add (take a xs) (first c ∷ second c ∷ drop 2 (drop a xs)) 2

    back : (b : ℕ) → b ≡ a + 2 → drop b (after xs a c) ≡ drop 2 (drop a xs)
    back b e =
        let q : length (take a xs) ≡ a = length-take-le a xs (omega arith) in
        let f : b ≡ length (take a xs) + 2 = omega arith in
        ap (λ (k : ℕ). drop k (after xs a c)) f ∙ drop-append-add (take a xs) (first c ∷ second c ∷ drop 2 (drop a xs)) 2

    as_long : length (after xs a c) ≡ length xs
    as_long =
        let q : length (take a xs) ≡ a = length-take-le a xs (omega arith) in
        let d : length (drop 2 (drop a xs)) ≡ length xs - a - 2 = simp (length-drop) in
        simp length-append (omega arith)

  -- The whole is what is left from mark number i on, after what the buffer holds of those before it.
  abbrev Holds : List Entry → List A → ℕ → List A → List Entry → Type 0
  Holds whole xs₀ i xs rest = written first second whole xs₀ ≡ take (2 * i) xs ++ written first second rest (drop (2 * i) xs)

  module _ (whole : List Entry) (xs₀ xs : List A) (i : ℕ) {r : List Entry} (st : Holds whole xs₀ i xs r) where
    hold-placed : {p : Entry} {q : List Entry} → r ≡ p ∷ q → {zs : List A} → zs ≡ after xs (2 * i) p.choice → 2 * i + 2 ≤ length xs → Holds whole xs₀ (i + 1) zs q
    hold-placed {p} {q} e {zs} z h =
        let u = first p.choice in
        let v = second p.choice in
        let f = front xs (2 * i) p.choice h (2 * (i + 1)) (omega arith) in
        let b = back xs (2 * i) p.choice h (2 * (i + 1)) (omega arith) in
        let w : take (2 * i) xs ++ written first second r (drop (2 * i) xs) ≡ take (2 * i) xs ++ u ∷ v ∷ written first second q (drop 2 (drop (2 * i) xs)) =
        ap (λ (o : List Entry). take (2 * i) xs ++ written first second o (drop (2 * i) xs)) e
        ∙ ap (λ (l : List A). take (2 * i) xs ++ l) (written-more p q (drop (2 * i) xs)) in
        let y : take (2 * (i + 1)) zs ++ written first second q (drop (2 * (i + 1)) zs) ≡ take (2 * i) xs ++ u ∷ v ∷ written first second q (drop 2 (drop (2 * i) xs)) =
        ap (λ (l : List A). take (2 * (i + 1)) l ++ written first second q (drop (2 * (i + 1)) l)) z ∙ simp (f, b, append_assoc) in
        st ∙ w ∙ sym y

    hold-ends : r ≡ [] → {zs : List A} → zs ≡ xs → zs ≡ written first second whole xs₀
    hold-ends e {zs} z =
        z ∙ sym (st ∙ ap (λ (q : List Entry). take (2 * i) xs ++ written first second q (drop (2 * i) xs)) e
        ∙ ap (λ (l : List A). take (2 * i) xs ++ l) (sym (nothing_written (drop (2 * i) xs))) ∙ take-append-drop (2 * i) xs)

-- ---- the tests at the start

abbrev left : RowEnd → List Float → List ℕ → Left
left ended answers ends = record { ended = ended; answers = answers; ends = ends }

-- what a row of these marks makes of its buffers
abbrev pub Leaves : Rowed → List Float → List ℕ → Left → Type 0
Leaves r answers ends l = l ≡ leaving r answers ends

alike : {d e : RowEnd} {xs ys : List Float} {bs cs : List ℕ} → d ≡ e → xs ≡ ys → bs ≡ cs → left d xs bs ≡ left e ys cs
alike p q r = rw (p, q, r)

leaves-refused : (n i b : ℕ) (r : Rowed) (xs : List Float) (bs : List ℕ) → r ≡ refused_at i n b → Leaves r xs bs (left (RowEnd.Refusal n i b) xs bs)
leaves-refused n i b r xs bs e = rw e (alike refl (nothing_written u_of v_of xs) (nothing_written end_of origin_of bs))

module _ (s : Surface) (ms xs : List Float) (bs : List ℕ) (terms : Terms) (budget : ℕ) where
  abbrev whole : Rowed
  whole = row_into s ms (length xs) (length bs) terms budget

  abbrev tested : Rowed
  tested = rowed s (marks_of ms) terms budget

  refused-by : (n : ℕ) → refusal_of_surface s ≡ n → 1 ≤ n → tested ≡ refused_at 0 n budget
  unfolding rowed or_else unless_refused
  refused-by zero q l = absurd (omega arith)
  refused-by (suc n) q l = simp q

  module _ {b : Bool} (e : b ≡ misfit (length ms) (length xs) (length bs)) where
    pub eleven : b ≡ true → Leaves whole xs bs (left (RowEnd.Refusal 11 0 budget) xs bs)
    unfolding row_into unless_refused
    eleven h = leaves-refused 11 0 budget whole xs bs (simp (← e, h))

    fitting : b ≡ false → whole ≡ tested
    unfolding row_into unless_refused
    fitting h = simp (← e, h)

    pub surface-refused : b ≡ false → {n : ℕ} → checked s ≡ Check.Refusal n → Leaves whole xs bs (left (RowEnd.Refusal n 0 budget) xs bs)
    surface-refused h {n} p =
        let q = refusal-number s n p in
        leaves-refused n 0 budget whole xs bs (fitting h ∙ refused-by n q.0 q.1)

    pub surface-passed : b ≡ false → {l : Left} → Leaves tested xs bs l → Leaves whole xs bs l
    surface-passed h l = rw (fitting h) l

  module _ {m : Float} (k : checked s ≡ Check.Scale m) {t : Bool} (e : t ≡ sound_terms terms) where
    pub seven : t ≡ false → Leaves tested xs bs (left (RowEnd.Refusal 7 0 budget) xs bs)
    unfolding rowed or_else unless_refused
    seven h = leaves-refused 7 0 budget tested xs bs (simp ((checked-scale s m k).0, ← e, h))

    pub sound : t ≡ true → {l : Left} → Leaves (in_turn s 0 (marks_of ms) (record { terms = terms; left = budget })) xs bs l → Leaves tested xs bs l
    unfolding rowed or_else unless_refused
    sound h l = simp ((checked-scale s m k).0, ← e, h) l

-- ---- the marks in turn

mark-next : (ms : List Float) (i : ℕ) → 3 * i + 3 ≤ length ms → marks_of (drop (3 * i) ms) ≡ mark_at ms i ∷ marks_of (drop (3 * (i + 1)) ms)
unfolding marks_of
mark-next ms i h =
    let a = drop-cons ms (3 * i) nan (omega arith) in
    let b = drop-cons ms (suc (3 * i)) nan (omega arith) in
    let c = drop-cons ms (suc (suc (3 * i))) nan (omega arith) in
    let y : suc (3 * i) ≡ 3 * i + 1 = omega arith in
    let z : suc (suc (3 * i)) ≡ 3 * i + 2 = omega arith in
    let w : suc (suc (suc (3 * i))) ≡ 3 * (i + 1) = omega arith in
    let l : drop (3 * i) ms ≡ get_or ms (3 * i) nan ∷ get_or ms (3 * i + 1) nan ∷ get_or ms (3 * i + 2) nan ∷ drop (3 * (i + 1)) ms = cc in
    ap marks_of l

-- The whole is what is left from mark number i on, after what the buffers hold.
pub record Stands (whole : Rowed) (answers₀ : List Float) (ends₀ : List ℕ) (i : ℕ) (answers : List Float) (ends : List ℕ) (rest : Rowed) : Type 0 where
  pub end : whole.ended ≡ rest.ended
  pub pairs : Holds u_of v_of whole.pairs answers₀ i answers rest.pairs
  pub bytes : Holds end_of origin_of whole.pairs ends₀ i ends rest.pairs

module _ (whole : Rowed) (xs₀ xs : List Float) (bs₀ bs : List ℕ) (i : ℕ) {r : Rowed} (st : Stands whole xs₀ bs₀ i xs bs r) where
  stand-ends : {o : RowEnd} → r ≡ record { pairs = []; ended = o } → {zs : List Float} → zs ≡ xs → {cs : List ℕ} → cs ≡ bs → Leaves whole xs₀ bs₀ (left o zs cs)
  stand-ends e z c =
      let none = ap (λ (q : Rowed). q.pairs) e in
      alike (sym (st.end ∙ ap (λ (q : Rowed). q.ended) e)) (hold-ends u_of v_of whole.pairs xs₀ xs i st.pairs none z) (hold-ends end_of origin_of whole.pairs bs₀ bs i st.bytes none c)

module _ (s : Surface) (ms : List Float) where
  abbrev pub rest_from : ℕ → Progress → Rowed
  rest_from i p = in_turn s i (marks_of (drop (3 * i) ms)) p

  pub begins : (xs : List Float) (bs : List ℕ) (p : Progress) → Stands (in_turn s 0 (marks_of ms) p) xs bs 0 xs bs (rest_from 0 p)
  begins xs bs p = record { end = refl; pairs = refl; bytes = refl }

  module _ (whole : Rowed) (xs₀ xs : List Float) (bs₀ bs : List ℕ) (i : ℕ) (p : Progress) (st : Stands whole xs₀ bs₀ i xs bs (rest_from i p)) where
    pub over : length ms ≡ 3 * i → Leaves whole xs₀ bs₀ (left (RowEnd.Placed p.left) xs bs)
    unfolding in_turn marks_of
    over h =
        let d : drop (3 * i) ms ≡ [] = drop_of_length-le ms {i = 3 * i} (omega arith) in
        stand-ends whole xs₀ xs bs₀ bs i st (simp d) refl refl

    module _ (h : 3 * i + 3 ≤ length ms) {mark : Vector3} (m : mark ≡ mark_at ms i) {g : Stepped} (e : g ≡ stepped s mark p)
        {ys : List Float} (f : ys ≡ fronted u_of v_of g (mid_of (2 * i) (length xs - 2 * i) xs)) {cs : List ℕ} (k : cs ≡ fronted end_of origin_of g (mid_of (2 * i) (length bs - 2 * i) bs)) where
      next : rest_from i p ≡ and_then i (in_turn s (i + 1) (marks_of (drop (3 * (i + 1)) ms))) g
      unfolding in_turn
      next = simp (mark-next ms i h, ← m, ← e)

      abbrev answers : List Float
      answers = put_mid (2 * i) (length xs - 2 * i) xs ys

      abbrev ends : List ℕ
      ends = put_mid (2 * i) (length bs - 2 * i) bs cs

      module _ (c : Choice) (q : Progress) (z : g ≡ Placed c q) (l : 2 * i + 2 ≤ length xs) (n : 2 * i + 2 ≤ length bs) where
        placed-next : rest_from i p ≡ preceded (record { choice = c; left = q.left }) (rest_from (i + 1) q)
        unfolding and_then
        placed-next = next ∙ simp z

        pub goes : Stands whole xs₀ bs₀ (i + 1) answers ends (rest_from (i + 1) q)
        goes =
            let more = ap (λ (o : Rowed). o.pairs) placed-next in
            record {
              end = st.end ∙ ap (λ (o : Rowed). o.ended) placed-next;
              pairs = hold-placed u_of v_of whole.pairs xs₀ xs i st.pairs more (back-placed u_of v_of xs ys (2 * i) f z) l;
              bytes = hold-placed end_of origin_of whole.pairs bs₀ bs i st.bytes more (back-placed end_of origin_of bs cs (2 * i) k z) n;
            }

        pub kept-long : (length answers ≡ length xs) × (length ends ≡ length bs)
        kept-long = (
          ap length (back-placed u_of v_of xs ys (2 * i) f z) ∙ as_long u_of v_of xs (2 * i) c l,
          ap length (back-placed end_of origin_of bs cs (2 * i) k z) ∙ as_long end_of origin_of bs (2 * i) c n,
        )

      pub stops : {n t : ℕ} → g ≡ Refusal n t → Leaves whole xs₀ bs₀ (left (RowEnd.Refusal n i t) answers ends)
      unfolding and_then
      stops z = stand-ends whole xs₀ xs bs₀ bs i st (next ∙ simp z) (back-refused u_of v_of xs ys (2 * i) f z) (back-refused end_of origin_of bs cs (2 * i) k z)
