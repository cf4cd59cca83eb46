-- How a mark of a row leads to the next: a close one by its answer, a lost one not at all. Assumes nothing.
use Rattle.std.specs.Prelude.{◌≡◌, Bool, not, ◌&&◌, length, drop, Float}
use Rattle.std.proofs.Math.Path.{refl, ap}
use Rattle.std.proofs.Common.{sym, ◌∙◌, length-drop, length-append, drop_at, length-take-le}
use Rattle.std.proofs.Math.Bool.{true, false, and-false}
use Rattle.std.proofs.lemmas.Bool.{false≢true}
use mathlib.Core.List.{List, [], ◌∷◌, ◌++◌}
use Prim.Native.Nat.{ℕ, zero, suc, ◌+◌, ◌-◌, ◌≤◌}
use Rattle.std.proofs.Math.Nat.{sub-zero}
use native.Mathlib.Omega.{arith}
use Rattle.std.proofs.Math.ListN.{take}
use Rattle.std.proofs.Math.Seq.{drop-nil}
use Rattle.vector3.specs.declared.Vector3.{Vector3}
use Rattle.surface.specs.Surface.{Surface, or_else, when, refusal_of_surface, judged, checked}
use Rattle.inversion.specs.declared.Choice.{Choice}
use Rattle.inversion.specs.declared.Hint.{Hint}
use Rattle.inversion.specs.declared.Hint.TheVariants.{Nothing, At}
use Rattle.inversion.specs.Inversion.{within}
use Rattle.chart.specs.declared.Terms.{Terms}
use Rattle.chart.specs.declared.Placing.{Placing}
use Rattle.chart.specs.declared.Placing.TheVariants.{Pair, Refusal}
use Rattle.chart.specs.Chart.{sound_hint, sound_terms, sound_search, placed_by}
use Rattle.inverter.specs.Inverter.{on_checked, placed}
use Rattle.inverter.specs.PairLaws.{Shifted, placed_pair}
use Rattle.row_step.specs.declared.Progress.{Progress}
use Rattle.row_step.specs.declared.Stepped.{Stepped}
use Rattle.row_step.specs.Step.{with_hint, led_by, step_by, stepped}
use Rattle.row_step.specs.StepLaws.{OffShell, off-shell-lost}
use Rattle.row.specs.declared.RowEnd.{RowEnd}
use Rattle.row.specs.Row.{Entry, Rowed, refused_at, preceded, and_then, in_turn, marks_of, unless_refused, rowed, misfit, row_into, u_of, v_of}
use Rattle.row.specs.RowLaws.{fits, misfit-refused, row_fits}

-- x is number i of a list, from 0 on
abbrev pub Nth : {A : Type 0} → List A → ℕ → A → Type 0
Nth {A} xs i x = (rest : List A) × (drop i xs ≡ x ∷ rest)

module _ {A : Type 0} where
  none-th : (i : ℕ) {x : A} → Nth [] i x → ⊥
  none-th i n = omega (arith, ap length (sym (drop-nil i) ∙ n.1))

  first-is : {x y : A} {xs : List A} → Nth (x ∷ xs) 0 y → x ≡ y
  first-is n = cc

  nth_inside : (xs : List A) (i : ℕ) {x : A} → Nth xs i x → suc i ≤ length xs
  nth_inside xs i n = omega (arith, length-drop i xs, ap length n.1)

-- ---- the row after a mark that was placed

-- mark number i has the answer g to a budget of b: its entry, or the refusal that ends the row
abbrev pub Answered : Rowed → ℕ → ℕ → Placing → Type 0
Answered r i b (Pair c taken) = Nth r.pairs i (record { choice = c; left = b - taken })
Answered r i b (Refusal number taken) = (length r.pairs ≡ i) × (r.ended ≡ RowEnd.Refusal number i (b - taken))

abbrev carried : Terms → ℕ → Progress
carried t left = record { terms = t; left = left }

-- these entries, and then those of a row
abbrev following : List Entry → Rowed → Rowed
following es r = record { pairs = es ++ r.pairs; ended = r.ended }

led-again : (t : Terms) (c d : Choice) → led_by (led_by t c) d ≡ led_by t d
unfolding led_by
led-again t c d = refl

module _ (s : Surface) where
  -- after its entry number i, that of mark number k + i, a row goes on with what the entry hands on
  abbrev Goes : ℕ → ℕ → List Vector3 → Terms → Entry → Rowed → Type 0
  Goes i k marks t e r = r ≡ following (take (suc i) r.pairs) (in_turn s (k + suc i) (drop (suc i) marks) (carried (led_by t e.choice) e.left))

  then-goes : (k : ℕ) (m : Vector3) (marks : List Vector3) (p : Progress) (e : Entry)
      → ((i : ℕ) (q : Progress) → Nth (in_turn s (k + 1) marks q).pairs i e → Goes i (k + 1) marks q.terms e (in_turn s (k + 1) marks q))
      → (i : ℕ) (g : Placing) → Nth (and_then k (in_turn s (k + 1) marks) (step_by p g)).pairs i e → Goes i k (m ∷ marks) p.terms e (and_then k (in_turn s (k + 1) marks) (step_by p g))
  unfolding and_then step_by
  then-goes k m marks p e more i (Refusal number t) n = absurd (none-th i n)
  then-goes k m marks p e more zero (Pair c t) n = rw (← first-is n)
  then-goes k m marks p e more (suc i) (Pair c t) n =
      let q = carried (led_by p.terms c) (p.left - t) in
      let z : k + 1 + suc i ≡ k + suc (suc i) = omega arith in
      let w : in_turn s (k + 1 + suc i) (drop (suc i) marks) (carried (led_by q.terms e.choice) e.left) ≡ in_turn s (k + suc (suc i)) (drop (suc i) marks) (carried (led_by p.terms e.choice) e.left) = rw (z, led-again p.terms c e.choice) in
      let own : Entry = record { choice = c; left = p.left - t } in
      ap (preceded own) (more i q n) ∙ ap (following (own ∷ take (suc i) (in_turn s (k + 1) marks q).pairs)) w

  goes_on : (i k : ℕ) (marks : List Vector3) (p : Progress) (e : Entry) → Nth (in_turn s k marks p).pairs i e → Goes i k marks p.terms e (in_turn s k marks p)
  unfolding in_turn stepped
  goes_on i k [] p e n = absurd (none-th i n)
  goes_on i k (m ∷ marks) p e n = then-goes k m marks p e (λ j q. goes_on j (k + 1) marks q e) i (placed s m p.terms p.left) n

  -- a row that goes on with a mark answers it as the call does
  answered-next : (r : Rowed) (es : List Entry) (i : ℕ) (m : Vector3) (marks : List Vector3) (t : Terms) (b : ℕ)
      → length es ≡ i → r ≡ following es (in_turn s i (m ∷ marks) (carried t b)) → Answered r i b (placed s m t b)
  unfolding in_turn stepped and_then step_by
  answered-next r es i m marks t b l h = by (placed s m t b) h
    where
      rest : Placing → Rowed
      rest g = and_then i (in_turn s (i + 1) marks) (step_by (carried t b) g)

      by : (g : Placing) → r ≡ following es (rest g) → Answered r i b g
      by (Pair c taken) h =
          let more = (in_turn s (i + 1) marks (carried (led_by t c) (b - taken))).pairs in
          (more, ap (λ (q : Rowed). drop i q.pairs) h ∙ drop_at es (record { choice = c; left = b - taken } ∷ more) i l)
      by (Refusal number taken) h = (ap (λ (q : Rowed). length q.pairs) h ∙ length-append es [] ∙ omega arith, ap (λ (q : Rowed). q.ended) h)

-- ---- a row within a row

-- the index of a refusal counts on from k
unfoldable pub later : ℕ → RowEnd → RowEnd
later k (RowEnd.Placed left) = RowEnd.Placed left
later k (RowEnd.Refusal number i left) = RowEnd.Refusal number (k + i) left

-- the first k entries of a row, and then another row, of the marks after those
abbrev pub continued : ℕ → Rowed → Rowed → Rowed
continued k r rest = record { pairs = take k r.pairs ++ rest.pairs; ended = later k rest.ended }

abbrev counted_from : ℕ → Rowed → Rowed
counted_from k r = record { pairs = r.pairs; ended = later k r.ended }

module _ (s : Surface) where
  then-counted : (k i : ℕ) (more rest : Progress → Rowed) → ((p : Progress) → more p ≡ counted_from k (rest p)) → (g : Stepped) → and_then (k + i) more g ≡ counted_from k (and_then i rest g)
  unfolding and_then later
  then-counted k i more rest same (Stepped.Placed c p) = ap (preceded (record { choice = c; left = p.left })) (same p)
  then-counted k i more rest same (Stepped.Refusal number left) = refl

  counted : (k i : ℕ) (marks : List Vector3) (p : Progress) → in_turn s (k + i) marks p ≡ counted_from k (in_turn s i marks p)
  unfolding in_turn later
  counted k i [] p = refl
  counted k i (m ∷ marks) p =
      let z : k + i + 1 ≡ k + (i + 1) = omega arith in
      then-counted k i (in_turn s (k + i + 1) marks) (in_turn s (i + 1) marks) (λ q. rw z (counted k (i + 1) marks q)) (stepped s m p)

-- ---- a row is that of its marks in turn

-- on an accepted surface and sound terms
module _ (s : Surface) (marks : List Vector3) (terms : Terms) (budget : ℕ) where
  row-sound : refusal_of_surface s ≡ 0 → sound_terms terms ≡ true → rowed s marks terms budget ≡ in_turn s 0 marks (carried terms budget)
  unfolding rowed or_else unless_refused
  row-sound ok sound = simp (ok, sound)

  -- and they passed where it has an entry
  passed : (i : ℕ) {e : Entry} → Nth (rowed s marks terms budget).pairs i e → (refusal_of_surface s ≡ 0) × (sound_terms terms ≡ true)
  unfolding rowed or_else unless_refused
  passed i {e} n = by (refusal_of_surface s) (sound_terms terms) n
    where
      by : (k : ℕ) (t : Bool) → Nth (unless_refused (or_else k (when (not t) 7)) budget (λ left. in_turn s 0 marks (carried terms left))).pairs i e → (k ≡ 0) × (t ≡ true)
      by zero true n = (refl, refl)
      by zero false n = absurd (none-th i n)
      by (suc k) t n = absurd (none-th i n)

unhinted-sound : (t : Terms) → sound_terms t ≡ true → sound_terms (with_hint t Nothing) ≡ true
unfolding sound_terms sound_hint
unhinted-sound t h = by (sound_hint t.hint) _ _ _ h
  where
    by : (q a b c : Bool) → (q && a && b && c) ≡ true → (a && b && c) ≡ true
    by true a b c e = e
    by false a b c e = absurd (false≢true e)

-- ---- the call's answer to each mark

module _ (s : Surface) (ok : refusal_of_surface s ≡ 0) where
  module _ (m : Vector3) (t : Terms) (b : ℕ) where
    seven : sound_search m t ≡ false → placed s m t b ≡ Refusal 7 0
    unfolding placed checked judged on_checked placed_by
    seven h = simp (ok, h)

    pair-sound : {c : Choice} {n : ℕ} → placed s m t b ≡ Pair c n → sound_search m t ≡ true
    pair-sound {c} {n} h = by (sound_search m t) refl
      where
        by : (q : Bool) → sound_search m t ≡ q → sound_search m t ≡ true
        by true e = e
        by false e = absurd (let g = rw (seven e) at h in let z : ◌≡◌ {A = ℕ} 0 1 = cc in omega arith)

  -- an entry is the call's answer to its mark, on terms that differ from the row's in the hint alone
  pub record Asked (terms : Terms) (mark : Vector3) (e : Entry) : Type 0 where
    pub hint : Hint
    pub budget : ℕ
    pub taken : ℕ
    pub answer : placed s mark (with_hint terms hint) budget ≡ Pair e.choice taken
    pub left : e.left ≡ budget - taken
    pub sound : sound_search mark (with_hint terms hint) ≡ true
    -- so what the call promises of a pair holds of it; its distance is that of the pair before its shift by periods
    pub pair : Shifted s ok mark (with_hint terms hint) sound e.choice taken

  asked : (p : Progress) (m : Vector3) (c : Choice) (n : ℕ) → placed s m p.terms p.left ≡ Pair c n → Asked p.terms m (record { choice = c; left = p.left - n })
  asked p m c n h =
      let sound = pair-sound m p.terms p.left h in
      record { hint = p.terms.hint; budget = p.left; taken = n; answer = h; left = refl; sound = sound; pair = placed_pair s ok m p.terms sound p.left c n h }

  asked-again : (t : Terms) (c : Choice) (m : Vector3) (e : Entry) → Asked (led_by t c) m e → Asked t m e
  unfolding led_by
  asked-again t c m e a = record { hint = a.hint; budget = a.budget; taken = a.taken; answer = a.answer; left = a.left; sound = a.sound; pair = a.pair }

  then-asked : (k : ℕ) (m own : Vector3) (marks : List Vector3) (p : Progress) (e : Entry)
      → ((i : ℕ) (q : Progress) → Nth (in_turn s (k + 1) marks q).pairs i e → Nth marks i m → Asked q.terms m e)
      → (i : ℕ) (g : Placing) → placed s own p.terms p.left ≡ g → Nth (and_then k (in_turn s (k + 1) marks) (step_by p g)).pairs i e → Nth (own ∷ marks) i m → Asked p.terms m e
  unfolding and_then step_by
  then-asked k m own marks p e more i (Refusal number t) h n o = absurd (none-th i n)
  then-asked k m own marks p e more zero (Pair c t) h n o = rw (← first-is n, ← first-is o) (asked p own c t h)
  then-asked k m own marks p e more (suc i) (Pair c t) h n o = asked-again p.terms c m e (more i (carried (led_by p.terms c) (p.left - t)) n o)

  asked-in-turn : (i k : ℕ) (marks : List Vector3) (p : Progress) (e : Entry) (m : Vector3) → Nth (in_turn s k marks p).pairs i e → Nth marks i m → Asked p.terms m e
  unfolding in_turn stepped
  asked-in-turn i k [] p e m n o = absurd (none-th i n)
  asked-in-turn i k (own ∷ marks) p e m n o = then-asked k m own marks p e (λ j q. asked-in-turn j (k + 1) marks q e m) i (placed s own p.terms p.left) refl n o

-- ---- and where it has marks at all, whatever its surface and terms: the tests at the start refuse as the first mark would be

module _ (s : Surface) (mark : Vector3) (marks : List Vector3) (terms : Terms) (budget : ℕ) where
  abbrev InTurn : Type 0
  InTurn = rowed s (mark ∷ marks) terms budget ≡ in_turn s 0 (mark ∷ marks) (carried terms budget)

  refused-first : (k : ℕ) → refusal_of_surface s ≡ suc k → InTurn
  unfolding rowed or_else unless_refused placed checked judged on_checked in_turn stepped step_by and_then
  refused-first k e = simp (e, sub-zero)

  sound-first : refusal_of_surface s ≡ 0 → (t : Bool) → sound_terms terms ≡ t → InTurn
  unfolding rowed or_else unless_refused in_turn stepped step_by and_then sound_search
  sound-first e false h =
      let q : sound_search mark terms ≡ false = simp (h, and-false) in
      rw (seven s e mark terms budget q) (simp (e, h, sub-zero))
  sound-first e true h = row-sound s (mark ∷ marks) terms budget e h

  row-in-turn : InTurn
  row-in-turn = by (refusal_of_surface s) refl
    where
      by : (k : ℕ) → refusal_of_surface s ≡ k → InTurn
      by zero e = sound-first e (sound_terms terms) refl
      by (suc k) e = refused-first k e

-- ---- the marks of a row: that of the call, which is the row of its marks where any has an entry, or of a job

pub call-row : (s : Surface) (coordinates : List Float) (numbers bytes : ℕ) (terms : Terms) (budget i : ℕ) (e : Entry) → Nth (row_into s coordinates numbers bytes terms budget).pairs i e
    → row_into s coordinates numbers bytes terms budget ≡ rowed s (marks_of coordinates) terms budget
call-row s coordinates numbers bytes terms budget i e n = by (misfit (length coordinates) numbers bytes) refl
  where
    by : (t : Bool) → misfit (length coordinates) numbers bytes ≡ t → row_into s coordinates numbers bytes terms budget ≡ rowed s (marks_of coordinates) terms budget
    by true h = absurd (none-th i (rw (misfit-refused s coordinates numbers bytes terms budget h) at n))
    by false h = row_fits s coordinates numbers bytes terms budget (fits (length coordinates) numbers bytes h)

module _ (s : Surface) (marks : List Vector3) (terms : Terms) (budget : ℕ) {r : Rowed} (is : r ≡ rowed s marks terms budget) where
  -- "The first mark has the caller's hint or none."
  pub first-asked : (m : Vector3) → Nth marks 0 m → Answered r 0 budget (placed s m terms budget)
  first-asked m o =
      let h : rowed s marks terms budget ≡ in_turn s 0 (m ∷ o.0) (carried terms budget) = rw o.1 (row-in-turn s m o.0 terms budget) in
      answered-next s r [] 0 m o.0 terms budget refl (is ∙ h)

  -- one without marks ends with the budget, once its tests pass
  pub no-marks : marks ≡ [] → refusal_of_surface s ≡ 0 → sound_terms terms ≡ true → r.ended ≡ RowEnd.Placed budget
  unfolding in_turn
  no-marks h ok sound = ap (λ (q : Rowed). q.ended) (is ∙ row-sound s marks terms budget ok sound ∙ ap (λ (ms : List Vector3). in_turn s 0 ms (carried terms budget)) h)

  -- where mark number i has an entry
  module _ (i : ℕ) (e : Entry) (n : Nth r.pairs i e) where
    pub tested : (refusal_of_surface s ≡ 0) × (sound_terms terms ≡ true)
    tested = passed s marks terms budget i (rw is at n)

    in-turn : r ≡ in_turn s 0 marks (carried terms budget)
    in-turn = is ∙ row-sound s marks terms budget tested.0 tested.1

    pub each-asked : (m : Vector3) → Nth marks i m → Asked s tested.0 terms m e
    each-asked m o = asked-in-turn s tested.0 i 0 marks (carried terms budget) e m (rw in-turn at n) o

    goes : r ≡ following (take (i + 1) r.pairs) (in_turn s (i + 1) (drop (i + 1) marks) (carried (led_by terms e.choice) e.left))
    goes =
        let z : 0 + suc i ≡ i + 1 = omega arith in
        let y : suc i ≡ i + 1 = omega arith in
        let h = goes_on s i 0 marks (carried terms budget) e (rw in-turn at n) in
        rw in-turn (rw (z, y) at h)

    next-asked : (t : Terms) → led_by terms e.choice ≡ t → (m : Vector3) → Nth marks (i + 1) m → Answered r (i + 1) e.left (placed s m t e.left)
    next-asked t l m o =
        let long = length-take-le (i + 1) r.pairs (omega (arith, nth_inside r.pairs i n)) in
        answered-next s r (take (i + 1) r.pairs) (i + 1) m o.0 t e.left long (rw (l, o.1) at goes)

    -- a mark off the shell is lost
    pub off-shell : (m : Vector3) → Nth marks i m → OffShell s m terms.tolerance → within e.choice.end terms.tolerance ≡ false
    off-shell m o off =
        let a = each-asked m o in
        rw a.answer at (off-shell-lost s m (with_hint terms a.hint) off a.budget)

    -- where it is the last mark, the row ends with what it left
    pub last-left : drop (i + 1) marks ≡ [] → r.ended ≡ RowEnd.Placed e.left
    unfolding in_turn
    last-left h = ap (λ (q : Rowed). q.ended) (rw h at goes)

    -- "the preceding answer is the hint only if its run's end, before any shift by periods, lies within the tolerance; otherwise the next mark has none"
    module _ (close : within e.choice.end terms.tolerance ≡ true) where
      pub kept-leads : (m : Vector3) → Nth marks (i + 1) m → Answered r (i + 1) e.left (placed s m (with_hint terms (At (u_of e.choice) (v_of e.choice))) e.left)
      unfolding led_by
      kept-leads = next-asked (with_hint terms (At (u_of e.choice) (v_of e.choice))) (simp close)

      -- "An answer shifted to infinity makes the next mark's hint a 7"
      pub kept-infinite : sound_hint (At (u_of e.choice) (v_of e.choice)) ≡ false → (m : Vector3) → Nth marks (i + 1) m → (length r.pairs ≡ i + 1) × (r.ended ≡ RowEnd.Refusal 7 (i + 1) e.left)
      unfolding sound_search sound_terms
      kept-infinite h m o =
          let q : sound_search m (with_hint terms (At (u_of e.choice) (v_of e.choice))) ≡ false = simp (h, and-false) in
          rw (seven s tested.0 m (with_hint terms (At (u_of e.choice) (v_of e.choice))) e.left q, sub-zero e.left) at (kept-leads m o)

    module _ (lost : within e.choice.end terms.tolerance ≡ false) where
      pub lost-leads-none : (m : Vector3) → Nth marks (i + 1) m → Answered r (i + 1) e.left (placed s m (with_hint terms Nothing) e.left)
      unfolding led_by
      lost-leads-none = next-asked (with_hint terms Nothing) (simp lost)

      -- the marks after it are answered as a row of them alone, without a hint, with the budget that is left
      pub lost-mark-alone : r ≡ continued (i + 1) r (rowed s (drop (i + 1) marks) (with_hint terms Nothing) e.left)
      unfolding led_by
      lost-mark-alone =
          let on = carried (with_hint terms Nothing) e.left in
          let l : led_by terms e.choice ≡ with_hint terms Nothing = simp lost in
          let sound = unhinted-sound terms tested.1 in
          let z : i + 1 + 0 ≡ i + 1 = omega arith in
          let c = rw z at (counted s (i + 1) 0 (drop (i + 1) marks) on) in
          rw l at goes ∙ ap (following (take (i + 1) r.pairs)) (c ∙ ap (counted_from (i + 1)) (sym (row-sound s (drop (i + 1) marks) (with_hint terms Nothing) e.left tested.0 sound)))

-- ---- a row of one mark

-- what the call answers, as a row of it would
unfoldable pub single : ℕ → Placing → Rowed
single budget (Pair c taken) = record { pairs = record { choice = c; left = budget - taken } ∷ []; ended = RowEnd.Placed (budget - taken) }
single budget (Refusal number taken) = refused_at 0 number (budget - taken)

in-turn-single : (s : Surface) (terms : Terms) (budget : ℕ) (g : Placing) → and_then 0 (in_turn s (0 + 1) []) (step_by (carried terms budget) g) ≡ single budget g
unfolding and_then in_turn step_by single
in-turn-single s terms budget (Pair c taken) = refl
in-turn-single s terms budget (Refusal number taken) = refl

-- "For a single call nothing differs."
pub single-unchanged : (s : Surface) (x y z : Float) (numbers bytes : ℕ) (terms : Terms) (budget : ℕ) → 2 ≤ numbers → 2 ≤ bytes
    → row_into s (x ∷ y ∷ z ∷ []) numbers bytes terms budget ≡ single budget (placed s (record { x = x; y = y; z = z }) terms budget)
unfolding marks_of in_turn stepped
single-unchanged s x y z numbers bytes terms budget n b =
    let mark : Vector3 = record { x = x; y = y; z = z } in
    row_fits s (x ∷ y ∷ z ∷ []) numbers bytes terms budget (record { threes = refl; pairs = n; ends = b })
    ∙ row-in-turn s mark [] terms budget ∙ in-turn-single s terms budget (placed s mark terms budget)
