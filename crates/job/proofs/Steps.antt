-- A job's marks one after another, over plain values. Assumes nothing.
use mathlib.Core.Path.{◌≡◌, refl, sym, ap, ◌∙◌}
use mathlib.Core.Bool.{Bool, true, false}
use mathlib.Core.List.{List, [], ◌++◌, append_assoc}
use Prim.Native.Nat.{ℕ, zero, suc, ◌+◌, ◌-◌, ◌*◌, ◌≤◌, ◌<◌}
use native.Mathlib.Nat.{add-zero, sub-zero}
use native.Mathlib.Omega.{arith}
use lib.ListN.{length}
use lib.Ieee.{Float}
use Rattle.digits.specs.Text.{Put}
use Rattle.digits.specs.TextLaws.{put_then, written_none}
use Rattle.vector3.specs.declared.Vector3.{Vector3}
use Rattle.domain.specs.declared.Shape.{Shape}
use Rattle.surface.specs.declared.Checked.TheVariants as Check
use Rattle.surface.specs.Surface.{Surface, surface, or_else, refusal_of_surface, checked}
use Rattle.inversion.specs.declared.Choice.{Choice}
use Rattle.chart.specs.declared.Terms.{Terms}
use Rattle.chart.specs.Chart.{sound_terms}
use Rattle.inverter.specs.PlacingLaws.{refusal-number}
use Rattle.row_step.specs.declared.Progress.{Progress}
use Rattle.row_step.specs.declared.Stepped.{Stepped}
use Rattle.row_step.specs.declared.Stepped.TheVariants.{Placed, Refusal}
use Rattle.row_step.specs.Step.{stepped}
use Rattle.row_step.specs.StepLaws.{Unshifted, Prints, step-prints}
use Rattle.row.specs.Row.{Rowed, refused_at, and_then, in_turn, unless_refused, rowed, u_of, v_of, end_of}
use Rattle.job_lines.specs.Lines.{pair_line, refused_line}
use Rattle.job_format.specs.Offsets.{mark_at, marks_at}
use Rattle.job.specs.Printout.{pair_lines, last_line, row_lines}
use Rattle.job.specs.Turns.{step_line}

-- ---- a step's line

pub printable : (s : Surface) (mark : Vector3) (p : Progress) → Unshifted p.terms → (r : Stepped) → r ≡ stepped s mark p → Prints r
printable s mark p free r e = rw e (step-prints s mark p free)

-- ---- the tests at the start

module _ (s : Surface) (ms : List Vector3) (terms : Terms) (budget : ℕ) where
  surface-refused : (n : ℕ) → refusal_of_surface s ≡ n → 1 ≤ n → rowed s ms terms budget ≡ refused_at 0 n budget
  unfolding rowed or_else unless_refused
  surface-refused zero q l = absurd (omega arith)
  surface-refused (suc n) q l = simp q

  pub lines-refused-surface : (n : ℕ) → checked s ≡ Check.Refusal n → row_lines (rowed s ms terms budget) ≡ refused_line n 0
  unfolding row_lines pair_lines last_line
  lines-refused-surface n h = let q = refusal-number s n h in ap row_lines (surface-refused n q.0 q.1)

  module _ (ok : refusal_of_surface s ≡ 0) (t : Bool) (e : t ≡ sound_terms terms) where
    pub lines-seven : t ≡ false → row_lines (rowed s ms terms budget) ≡ refused_line 7 0
    unfolding rowed or_else unless_refused row_lines pair_lines last_line
    lines-seven h = simp (ok, ← e, h)

    pub lines-sound : t ≡ true → row_lines (rowed s ms terms budget) ≡ row_lines (in_turn s 0 ms (record { terms = terms; left = budget }))
    unfolding rowed or_else unless_refused
    lines-sound h = simp (ok, ← e, h)

-- on another shape
pub lines-by-shape : {x y : Shape} → x ≡ y → (ku kv cs ws : List Float) (ms : List Vector3) (terms : Terms) (budget : ℕ) → row_lines (rowed (surface x ku kv cs ws) ms terms budget) ≡ row_lines (rowed (surface y ku kv cs ws) ms terms budget)
lines-by-shape e ku kv cs ws ms terms budget = ap (λ (z : Shape). row_lines (rowed (surface z ku kv cs ws) ms terms budget)) e

-- ---- a mark's line, and those after it

-- whatever puts the rest puts all
abbrev pub Rest : (from : ℕ) (text before : List ℕ) (at : ℕ) (rest now : List ℕ) → Type 0
Rest from text before at rest now = (after : List ℕ) (end : ℕ) → Put at rest now after end → Put from text before after end

pub put_as : {at end : ℕ} {a b x y : List ℕ} → a ≡ b → Put at a x y end → Put at b x y end
put_as e p = rw (← e) p

put-none : (at : ℕ) (x : List ℕ) → at ≤ length x → Put at [] x x at
put-none at x h = record { whole = sym (written_none at x); size = refl; next-is = omega arith; inside = h }

module _ {from : ℕ} {text before : List ℕ} {at : ℕ} {rest now : List ℕ} (r : Rest from text before at rest now) where
  pub rest_goes : (line more now' : List ℕ) (at' : ℕ) → rest ≡ line ++ more → Put at line now now' at' → Rest from text before at' more now'
  rest_goes line more now' at' e p after end q = r after end (put_as (sym e) (put_then p q))

  pub rest-stops : (line now' : List ℕ) (at' : ℕ) → rest ≡ line → Put at line now now' at' → Put from text before now' at'
  rest-stops line now' at' e p = r now' at' (put_as (sym e) p)

  pub rest_over : at ≤ length now → rest ≡ [] → Put from text before now at
  rest_over h e = r now at (put_as (sym e) (put-none at now h))

module _ (s : Surface) (bytes : List ℕ) (first n : ℕ) where
  -- the lines from mark number i on
  abbrev pub lines_from : ℕ → Progress → List ℕ
  lines_from i p = row_lines (in_turn s i (marks_at (n - i) bytes (first + 26 * i)) p)

  pub lines-begin : (p : Progress) → row_lines (in_turn s 0 (marks_at n bytes first) p) ≡ lines_from 0 p
  lines-begin p = simp (sub-zero, add-zero)

  module _ (i : ℕ) (p : Progress) where
    pub lines-over : n ≤ i → lines_from i p ≡ []
    unfolding marks_at in_turn row_lines pair_lines last_line
    lines-over h =
        let e : n - i ≡ 0 = omega arith in
        ap (λ (k : ℕ). row_lines (in_turn s i (marks_at k bytes (first + 26 * i)) p)) e

    module _ (h : i < n) (mark : Vector3) (m : mark ≡ mark_at bytes (first + 26 * i)) where
      abbrev next : Progress → Rowed
      next = in_turn s (i + 1) (marks_at (n - (i + 1)) bytes (first + 26 * (i + 1)))

      lines_of : lines_from i p ≡ row_lines (and_then i next (stepped s mark p))
      unfolding marks_at in_turn
      lines_of =
          let e : n - i ≡ suc (n - (i + 1)) = omega arith in
          let f : first + 26 * i + 26 ≡ first + 26 * (i + 1) = omega arith in
          ap (λ (k : ℕ). row_lines (in_turn s i (marks_at k bytes (first + 26 * i)) p)) e ∙ simp (f, m)

      module _ (r : Stepped) (w : r ≡ stepped s mark p) where
        lines-by : (q : Stepped) → r ≡ q → lines_from i p ≡ row_lines (and_then i next q)
        lines-by q e = lines_of ∙ ap (λ (q : Stepped). row_lines (and_then i next q)) (sym w ∙ e)

        pub lines-placed : (c : Choice) (after : Progress) → r ≡ Placed c after → lines_from i p ≡ step_line i r ++ lines_from (i + 1) after
        unfolding and_then row_lines pair_lines step_line
        lines-placed c after h = lines-by (Placed c after) h ∙ rw h (append_assoc (pair_line (u_of c) (v_of c) after.left (end_of c)) _ _)

        pub lines-refused : (number left : ℕ) → r ≡ Refusal number left → lines_from i p ≡ step_line i r
        unfolding and_then row_lines pair_lines last_line step_line
        lines-refused number left h = lines-by (Refusal number left) h ∙ rw h
