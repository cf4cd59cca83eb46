-- A surface's numbers in the buffer that they were decoded into, and the lines of its quote, over plain values. Assumes nothing.
use mathlib.Core.Path.{◌≡◌, refl, sym, ap, ◌∙◌}
use mathlib.Core.Bool.{Bool, true, false}
use mathlib.Core.List.{List, ◌++◌, append_assoc}
use Prim.Native.Nat.{ℕ, zero, suc, ◌+◌, ◌-◌, ◌*◌, ◌≤◌}
use native.Mathlib.Omega.{arith}
use lib.ListN.{length, take, drop}
use lib.Seq.{take_at, drop_at}
use lib.Ieee.{Float}
use Rattle.digits.specs.Text.{Put, written}
use Rattle.domain.specs.declared.Shape.{Shape}
use Rattle.surface.specs.declared.Checked.{Checked}
use Rattle.surface.specs.declared.Checked.TheVariants as Check
use Rattle.surface.specs.Surface.{surface, bare, too_large, checked}
use Rattle.quotation.specs.declared.Costing.{Costing}
use Rattle.quotation.specs.declared.Quotation.{Quotation}
use Rattle.quotation.specs.declared.Quotation.TheVariants.{Quoted, Refusal}
use Rattle.quotation.specs.Quote.{refusal_of_quote, grid_size, quoted_by, quoted}
use Rattle.job_lines.specs.Lines.{refused_line}
use Rattle.job_format.specs.declared.Layout.{Layout}
use Rattle.job_format.specs.declared.Layout.TheVariants.{Malformed, WellFormed}
use Rattle.job_format.specs.Format.{most_bytes, header_size, knots, controls, parse}
use Rattle.job_format.specs.Offsets.{Laid, count, floats_at, surface_at, job_at, told}
use Rattle.job_format.specs.OffsetLaws.{floats-length, floats-split}
use Rattle.quote_job.specs.QuotePrintout.{most_quoted, surface_in, cost_lines, quote_text, quote_by, quote_lines, quote_printed, quote_printout}

-- ---- the numbers

module _ (bytes : List ℕ) (size : ℕ) (numbers rest : List Float) (e : numbers ≡ floats_at size bytes 9 ++ rest) where
  -- a part of them
  part : (from n at : ℕ) → from + n ≤ size → at ≡ 9 + 8 * from → take n (drop from numbers) ≡ floats_at n bytes at
  part from n at h q =
      let more = size - from - n in
      let all : size ≡ from + (n + more) = omega arith in
      let before = floats_at from bytes 9 in
      let these = floats_at n bytes (9 + 8 * from) in
      let split : floats_at size bytes 9 ≡ before ++ (these ++ floats_at more bytes (9 + 8 * from + 8 * n)) =
      ap (λ (i : ℕ). floats_at i bytes 9) all ∙ floats-split bytes from (n + more) 9 ∙ ap (λ (l : List Float). before ++ l) (floats-split bytes n more (9 + 8 * from)) in
      let whole : numbers ≡ before ++ (these ++ (floats_at more bytes (9 + 8 * from + 8 * n) ++ rest)) = e ∙ ap (λ (l : List Float). l ++ rest) split ∙ simp append_assoc in
      rw q
      (ap (λ (l : List Float). take n (drop from l)) whole
      ∙ ap (take n) (drop_at before _ from (floats-length bytes from 9))
      ∙ take_at these _ n (floats-length bytes n (9 + 8 * from)))

  pub decoded : (shape : Shape) → size ≡ count shape → surface_in shape numbers ≡ surface_at shape bytes
  unfolding surface_in surface_at
  decoded shape s =
      let u = knots shape.u in
      let v = knots shape.v in
      let n = controls shape in
      simp (part 0 u 9 (omega arith) refl, part u v (9 + 8 * u) (omega arith) refl, part (u + v) (3 * n) (9 + 8 * u + 8 * v) (omega arith) (omega arith), part (u + v + 3 * n) n (9 + 8 * u + 8 * v + 8 * (3 * n)) (omega arith) (omega arith))

-- the parts that are lent, by their ends
pub parts_are : (shape : Shape) (numbers : List Float) (a b c d : ℕ) → a ≡ knots shape.u → b ≡ a + knots shape.v → c ≡ b + 3 * controls shape → d ≡ c + controls shape
    → surface shape (take a numbers) (take (b - a) (drop a numbers)) (take (c - b) (drop b numbers)) (take (d - c) (drop c numbers)) ≡ surface_in shape numbers
unfolding surface_in
parts_are shape numbers a b c d ha hb hc hd =
    let p : b - a ≡ knots shape.v = omega arith in
    let q : c - b ≡ 3 * controls shape = omega arith in
    let r : d - c ≡ controls shape = omega arith in
    rw (p, q, r, hc, hb, ha)

-- ---- the lines

pub put_as : {at end : ℕ} {a b x y : List ℕ} → a ≡ b → Put at a x y end → Put at b x y end
put_as e p = rw (← e) p

module _ (first later : Quotation) where
  pub first-refused : (n : ℕ) → first ≡ Refusal n → refused_line n 0 ≡ quote_text first later
  unfolding quote_text
  first-refused n e = rw e

  pub first-quoted : (c : Costing) → first ≡ Quoted c → quote_text (Quoted c) later ≡ quote_text first later
  first-quoted c e = rw e

module _ (first : Costing) (later : Quotation) where
  pub later-refused : (n : ℕ) → later ≡ Refusal n → refused_line n 0 ≡ quote_text (Quoted first) later
  unfolding quote_text
  later-refused n e = rw e

  pub later-quoted : (c : Costing) → later ≡ Quoted c → cost_lines first.grid first.most c.most ≡ quote_text (Quoted first) later
  unfolding quote_text
  later-quoted c e = rw e

-- controls and weights don't count for a quote
by-knots : (shape : Shape) (ku kv cs ws : List Float) (hinted : Bool) → quoted (bare shape ku kv) hinted ≡ quoted (surface shape ku kv cs ws) hinted
unfolding quoted quoted_by refusal_of_quote grid_size too_large
by-knots shape ku kv cs ws hinted = by (refusal_of_quote (bare shape ku kv))
  where
    by : (n : ℕ) → quoted_by (bare shape ku kv) hinted n ≡ quoted_by (surface shape ku kv cs ws) hinted n
    by zero = refl
    by (suc n) = refl

module _ (shape : Shape) (ku kv cs ws : List Float) (r : Checked) (e : r ≡ checked (surface shape ku kv cs ws)) where
  pub lines-refused : (n : ℕ) → r ≡ Check.Refusal n → refused_line n 0 ≡ quote_lines (surface shape ku kv cs ws)
  unfolding quote_lines quote_by
  lines-refused n h = sym (rw (← e, h))

  pub lines-checked : (m : Float) → r ≡ Check.Scale m → (first later : Quotation) → first ≡ quoted (bare shape ku kv) false → later ≡ quoted (bare shape ku kv) true → quote_text first later ≡ quote_lines (surface shape ku kv cs ws)
  unfolding quote_lines quote_by
  lines-checked m h first later f l = rw (f, l, by-knots shape ku kv cs ws false, by-knots shape ku kv cs ws true) (sym (rw (← e, h)))

-- ---- the printout

pub laid-numbers : (size : ℕ) (r : Layout) (shape : Shape) (n : ℕ) → Laid size r → r ≡ WellFormed shape n → (header_size + 8 * count shape ≤ size) × (size ≤ most_bytes)
laid-numbers size r shape n l e = let f = rw e at l in (omega (arith, f.whole), f.few)

module _ (bytes : List ℕ) (r : Layout) (e : parse bytes ≡ told r bytes) where
  pub prints-refusal : r ≡ Malformed → refused_line 12 0 ≡ quote_printout bytes
  unfolding quote_printout quote_printed told
  prints-refusal m = sym (rw (e, m))

  pub prints-lines : (shape : Shape) (n : ℕ) → r ≡ WellFormed shape n → quote_lines (surface_at shape bytes) ≡ quote_printout bytes
  unfolding quote_printout quote_printed told job_at
  prints-lines shape n m = sym (rw (e, m))

pub put_front : {text t x y : List ℕ} {r : ℕ} → text ≡ t → r ≤ most_quoted → Put 0 text x y r → (y ≡ t ++ drop r x) × ((r ≡ length t) × (r ≤ most_quoted))
unfolding written
put_front {text} {t} {x} {y} {r} e h p =
    let n : r ≡ length text = omega (arith, p.next-is) in
    rw (← e) (p.whole ∙ ap (λ (k : ℕ). text ++ drop k x) (sym p.next-is), (n, h))
