-- What holds of every row: what it takes, how it ends, and what it leaves of its buffers. Assumes nothing.
use Rattle.std.specs.Prelude.{◌≡◌, Bool, true, false, not, ◌||◌, ℕ, zero, suc, ◌+◌, ◌*◌, ◌/◌, ◌%◌, ◌≤◌, ltb, eqb, drop, Float}
use Rattle.std.proofs.Math.Path.{refl}
use Rattle.std.proofs.Common.{ap, arith, length-append, ltb-false, le-ltb, eqb-true}
use mathlib.Core.List.{List, [], ◌∷◌}
use Rattle.std.proofs.Math.ListN.{length, length-drop}
use Rattle.std.proofs.Math.Seq.{drop_at}
use Rattle.std.proofs.lemmas.Bool.{not-false}
use Rattle.float64.specs.Order.{neither}
use Rattle.vector3.specs.declared.Vector3.{Vector3}
use Rattle.surface.specs.Surface.{Surface}
use Rattle.newton.specs.declared.Iterate.{Iterate}
use Rattle.inversion.specs.declared.Choice.{Choice}
use Rattle.inversion.specs.Nearest.{All}
use Rattle.chart.specs.declared.Terms.{Terms}
use Rattle.row_step.specs.declared.Progress.{Progress}
use Rattle.row_step.specs.declared.Stepped.{Stepped}
use Rattle.row_step.specs.declared.Stepped.TheVariants.{Placed, Refusal}
use Rattle.row_step.specs.Step.{stepped}
use Rattle.row_step.specs.StepLaws.{Leaves, step-leaves, Unshifted, Numbers, Prints, step-prints}
use Rattle.row.specs.Row.{Entry, Rowed, marks_of, refused_at, and_then, in_turn, unless_refused, rowed, misfit, row_into, listed, written, u_of, v_of, end_of, origin_of, leaving, number_of, index_of, left_of}

-- ---- how a row ends

-- of n marks, numbered from i on
pub record Ends (i n budget : ℕ) (r : Rowed) : Type 0 where
  pub most : length r.pairs ≤ n
  -- every mark has its pair where none was refused; else as many have as stand before that one
  pub all : number_of r.ended ≡ 0 → length r.pairs ≡ n
  pub index : (number_of r.ended ≡ 0 → ⊥) → index_of r.ended ≡ i + length r.pairs
  pub left : left_of r.ended ≤ budget

then-ends : (i n budget : ℕ) (rest : Progress → Rowed) → ((p : Progress) → Ends (i + 1) n p.left (rest p)) → (g : Stepped) → Leaves budget g → Ends i (suc n) budget (and_then i rest g)
unfolding and_then number_of index_of left_of
then-ends i n budget rest more (Refusal number left) h = record { most = omega arith; all = λ z. absurd (omega arith); index = λ z. omega arith; left = h.1 }
then-ends i n budget rest more (Placed c p) h =
    let m = more p in
    record { most = omega (arith, m.most); all = λ z. ap suc (m.all z); index = λ z. omega (arith, m.index z); left = omega (arith, m.left) }

in_turn-ends : (s : Surface) (i : ℕ) (marks : List Vector3) (p : Progress) → Ends i (length marks) p.left (in_turn s i marks p)
unfolding in_turn number_of left_of
in_turn-ends s i [] p = record { most = omega arith; all = λ z. refl; index = λ z. absurd (z refl); left = omega arith }
in_turn-ends s i (mark ∷ marks) p =
    then-ends i (length marks) p.left (in_turn s (i + 1) marks) (in_turn-ends s (i + 1) marks) (stepped s mark p)
    (step-leaves s mark p)

unless-ends : (n number budget : ℕ) (row : ℕ → Rowed) → Ends 0 n budget (row budget) → Ends 0 n budget (unless_refused number budget row)
unfolding unless_refused number_of index_of left_of
unless-ends n zero budget row h = h
unless-ends n (suc number) budget row h = record { most = omega arith; all = λ z. absurd (omega arith); index = λ z. refl; left = omega arith }

module _ (s : Surface) (terms : Terms) (budget : ℕ) where
  pub rowed-ends : (marks : List Vector3) → Ends 0 (length marks) budget (rowed s marks terms budget)
  unfolding rowed
  rowed-ends marks = unless-ends (length marks) _ budget _ (in_turn-ends s 0 marks (record { terms = terms; left = budget }))

  pub row_ends : (coordinates : List Float) (numbers bytes : ℕ) → Ends 0 (length (marks_of coordinates)) budget (row_into s coordinates numbers bytes terms budget)
  unfolding row_into
  row_ends coordinates numbers bytes = unless-ends _ _ budget (rowed s (marks_of coordinates) terms) (rowed-ends (marks_of coordinates))

-- ---- the buffers

-- marks in threes, and room for two numbers and two bytes of each
pub record Fits (coordinates numbers bytes : ℕ) : Type 0 where
  pub threes : coordinates ≡ 3 * (coordinates / 3)
  pub pairs : 2 * (coordinates / 3) ≤ numbers
  pub ends : 2 * (coordinates / 3) ≤ bytes

pub fits : (coordinates numbers bytes : ℕ) → misfit coordinates numbers bytes ≡ false → Fits coordinates numbers bytes
unfolding misfit
fits coordinates numbers bytes h =
    let t = neither (not (eqb (coordinates % 3) 0) || ltb numbers (2 * (coordinates / 3))) (ltb bytes (2 * (coordinates / 3))) h in
    let w = neither (not (eqb (coordinates % 3) 0)) (ltb numbers (2 * (coordinates / 3))) t.0 in
    let z : coordinates % 3 ≡ 0 = eqb-true _ _ (not-false _ w.0) in
    record { threes = omega arith; pairs = ltb-false _ _ w.1; ends = ltb-false _ _ t.1 }

-- and where they are, it is not 11
pub fits-back : (coordinates numbers bytes : ℕ) → Fits coordinates numbers bytes → misfit coordinates numbers bytes ≡ false
unfolding misfit
fits-back coordinates numbers bytes f =
    let z : coordinates % 3 ≡ 0 = omega (arith, f.threes) in
    simp (z, le-ltb numbers (2 * (coordinates / 3)) f.pairs, le-ltb bytes (2 * (coordinates / 3)) f.ends)

marks-count : (coordinates : List Float) → length (marks_of coordinates) ≡ length coordinates / 3
unfolding marks_of
marks-count [] = refl
marks-count (x ∷ []) = refl
marks-count (x ∷ (y ∷ [])) = refl
marks-count (x ∷ (y ∷ (z ∷ rest))) = omega (arith, marks-count rest)

module _ (s : Surface) (coordinates : List Float) (numbers bytes : ℕ) (terms : Terms) (budget : ℕ) where
  pub misfit-refused : misfit (length coordinates) numbers bytes ≡ true → row_into s coordinates numbers bytes terms budget ≡ refused_at 0 11 budget
  unfolding row_into unless_refused
  misfit-refused h = simp h

  -- "11 too": with no mark's index, the budget whole, and nothing written; before any other check
  pub row-misfit : (Fits (length coordinates) numbers bytes → ⊥) → row_into s coordinates numbers bytes terms budget ≡ refused_at 0 11 budget
  row-misfit f = by (misfit (length coordinates) numbers bytes) refl
    where
      by : (t : Bool) → misfit (length coordinates) numbers bytes ≡ t → row_into s coordinates numbers bytes terms budget ≡ refused_at 0 11 budget
      by true e = misfit-refused e
      by false e = absurd (f (fits (length coordinates) numbers bytes e))

  -- and else it is the row of these marks, whatever the buffers' lengths
  pub row_fits : Fits (length coordinates) numbers bytes → row_into s coordinates numbers bytes terms budget ≡ rowed s (marks_of coordinates) terms budget
  unfolding row_into unless_refused
  row_fits f = simp (fits-back (length coordinates) numbers bytes f)

  -- there is room for every mark placed
  pub row_room : (2 * length (row_into s coordinates numbers bytes terms budget).pairs ≤ numbers) × (2 * length (row_into s coordinates numbers bytes terms budget).pairs ≤ bytes)
  row_room = by (misfit (length coordinates) numbers bytes) refl
    where
      by : (t : Bool) → misfit (length coordinates) numbers bytes ≡ t → (2 * length (row_into s coordinates numbers bytes terms budget).pairs ≤ numbers) × (2 * length (row_into s coordinates numbers bytes terms budget).pairs ≤ bytes)
      by true h = rw (misfit-refused h) (omega arith, omega arith)
      by false h =
          let f = fits (length coordinates) numbers bytes h in
          let m = (row_ends s terms budget coordinates numbers bytes).most in
          (omega (arith, f.pairs, marks-count coordinates, m), omega (arith, f.ends, marks-count coordinates, m))

module _ {A : Type 0} (first second : Choice → A) where
  listed-count : (ps : List Entry) → length (listed first second ps) ≡ 2 * length ps
  unfolding listed
  listed-count [] = refl
  listed-count (p ∷ ps) = omega (arith, listed-count ps)

  -- "all later numbers in the buffer keep their bits"
  pub written-later : (ps : List Entry) (xs : List A) → drop (2 * length ps) (written first second ps xs) ≡ drop (2 * length ps) xs
  unfolding written
  written-later ps xs = drop_at (listed first second ps) (drop (2 * length ps) xs) (2 * length ps) (listed-count ps)

  pub written-length : (ps : List Entry) (xs : List A) → 2 * length ps ≤ length xs → length (written first second ps xs) ≡ length xs
  unfolding written
  written-length ps xs h = simp (length-append, length-drop, listed-count) (omega arith)

-- the buffers keep their lengths
pub row-length : (s : Surface) (coordinates : List Float) (terms : Terms) (budget : ℕ) (xs : List Float) (bs : List ℕ)
    → (length (leaving (row_into s coordinates (length xs) (length bs) terms budget) xs bs).answers ≡ length xs) × (length (leaving (row_into s coordinates (length xs) (length bs) terms budget) xs bs).ends ≡ length bs)
row-length s coordinates terms budget xs bs =
    let r = row_room s coordinates (length xs) (length bs) terms budget in
    (written-length u_of v_of _ xs r.0, written-length end_of origin_of _ bs r.1)

-- ---- without periods no pair holds a NaN, so its bits can be printed

-- of every pair of a row
abbrev pub Each : (Iterate → Type 0) → List Entry → Type 0
Each P = All (λ a. P a.choice.end.at)

then-numbers : (i : ℕ) (rest : Progress → Rowed) → ((p : Progress) → Unshifted p.terms → Each Numbers (rest p).pairs) → (g : Stepped) → Prints g → Each Numbers (and_then i rest g).pairs
unfolding and_then
then-numbers i rest more (Refusal number left) h = tt
then-numbers i rest more (Placed c p) h = (h.0, more p h.1)

in_turn-numbers : (s : Surface) (i : ℕ) (marks : List Vector3) (p : Progress) → Unshifted p.terms → Each Numbers (in_turn s i marks p).pairs
unfolding in_turn
in_turn-numbers s i [] p free = tt
in_turn-numbers s i (mark ∷ marks) p free = then-numbers i (in_turn s (i + 1) marks) (in_turn-numbers s (i + 1) marks) (stepped s mark p) (step-prints s mark p free)

unless-numbers : (number budget : ℕ) (row : ℕ → Rowed) → Each Numbers (row budget).pairs → Each Numbers (unless_refused number budget row).pairs
unfolding unless_refused
unless-numbers zero budget row h = h
unless-numbers (suc number) budget row h = tt

pub rowed-numbers : (s : Surface) (marks : List Vector3) (terms : Terms) (budget : ℕ) → Unshifted terms → Each Numbers (rowed s marks terms budget).pairs
unfolding rowed
rowed-numbers s marks terms budget free = unless-numbers _ budget _ (in_turn-numbers s 0 marks (record { terms = terms; left = budget }) free)
