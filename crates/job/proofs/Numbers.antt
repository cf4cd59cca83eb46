-- A job's numbers in the buffer that they were decoded into, and its printout whole. Assumes nothing.
use mathlib.Core.Path.{◌≡◌, refl, sym, ap, ◌∙◌}
use mathlib.Core.List.{List, ◌++◌, append_assoc}
use Prim.Native.Nat.{ℕ, zero, suc, ◌+◌, ◌-◌, ◌*◌, ◌≤◌}
use native.Mathlib.Omega.{arith}
use lib.ListN.{length, take, drop, take-append-drop}
use lib.Seq.{take_at, drop_at}
use lib.Ieee.{Float}
use Rattle.digits.specs.Text.{Put, written}
use Rattle.domain.specs.declared.Shape.{Shape}
use Rattle.surface.specs.Surface.{surface}
use Rattle.row.specs.Row.{rowed}
use Rattle.row_step.specs.StepLaws.{Unshifted}
use Rattle.job_lines.specs.Lines.{marks_line, refused_line}
use Rattle.job_format.specs.declared.Layout.{Layout}
use Rattle.job_format.specs.declared.Layout.TheVariants.{Malformed, WellFormed}
use Rattle.job_format.specs.Format.{knots, controls, parse}
use Rattle.job_format.specs.Offsets.{Fits, Laid, count, size_of, after, floats_at, surface_at, marks_at, job_at, told}
use Rattle.job_format.specs.OffsetLaws.{floats-length, floats-split}
use Rattle.job.specs.declared.marks.Queue.{Queue}
use Rattle.job.specs.Printout.{row_lines, job_lines, printed, printout}
use Rattle.job.specs.Turns.{queue_at, marks_of, Roomy}

-- ---- the numbers

module _ (bytes : List ℕ) where
  pub decoded : (k n : ℕ) (numbers rest : List Float) → numbers ≡ floats_at k bytes 9 ++ rest → k ≡ n → take n numbers ≡ floats_at n bytes 9
  decoded k n numbers rest e q =
      ap (take n) (e ∙ ap (λ (i : ℕ). floats_at i bytes 9 ++ rest) q) ∙ take_at (floats_at n bytes 9) rest n (floats-length bytes n 9)

  marks-length : (n at : ℕ) → length (marks_at n bytes at) ≡ n
  unfolding marks_at
  marks-length zero at = refl
  marks-length (suc n) at = ap suc (marks-length n (at + 26))

  module _ (size : ℕ) (numbers : List Float) (e : take size numbers ≡ floats_at size bytes 9) where
    -- a part of them
    part : (from n j at : ℕ) → from + n ≤ size → j ≡ n → at ≡ 9 + 8 * from → take j (drop from numbers) ≡ floats_at n bytes at
    part from n j at h p q =
        let more : size ≡ from + (n + (size - from - n)) = omega arith in
        let split : floats_at size bytes 9 ≡ floats_at from bytes 9 ++ (floats_at n bytes (9 + 8 * from) ++ floats_at (size - from - n) bytes (9 + 8 * from + 8 * n)) =
        ap (λ (i : ℕ). floats_at i bytes 9) more ∙ floats-split bytes from (n + (size - from - n)) 9
        ∙ ap (λ (l : List Float). floats_at from bytes 9 ++ l) (floats-split bytes n (size - from - n) (9 + 8 * from)) in
        let all : numbers ≡ floats_at from bytes 9 ++ (floats_at n bytes (9 + 8 * from) ++ (floats_at (size - from - n) bytes (9 + 8 * from + 8 * n) ++ drop size numbers)) =
        sym (take-append-drop size numbers) ∙ ap (λ (l : List Float). l ++ drop size numbers) (e ∙ split) ∙ simp append_assoc in
        rw (p, q)
        (ap (λ (l : List Float). take n (drop from l)) all
        ∙ ap (take n) (drop_at (floats_at from bytes 9) _ from (floats-length bytes from 9))
        ∙ take_at (floats_at n bytes (9 + 8 * from)) _ n (floats-length bytes n (9 + 8 * from)))

  module _ (shape : Shape) (numbers : List Float) (e : take (count shape) numbers ≡ floats_at (count shape) bytes 9) where
    surface-is : (a b c d : ℕ) → a ≡ knots shape.u → b ≡ a + knots shape.v → c ≡ b + 3 * controls shape → d ≡ c + controls shape
        → surface shape (take a numbers) (take (b - a) (drop a numbers)) (take (c - b) (drop b numbers)) (take (d - c) (drop c numbers)) ≡ surface_at shape bytes
    unfolding surface_at
    surface-is a b c d ha hb hc hd =
        let u = knots shape.u in
        let v = knots shape.v in
        let n = controls shape in
        let ku : take a numbers ≡ floats_at u bytes 9 = part (count shape) numbers e 0 u a 9 (omega arith) ha refl in
        let kv : take (b - a) (drop a numbers) ≡ floats_at v bytes (9 + 8 * u) = part (count shape) numbers e a v (b - a) (9 + 8 * u) (omega arith) (omega arith) (omega arith) in
        let cs : take (c - b) (drop b numbers) ≡ floats_at (3 * n) bytes (9 + 8 * u + 8 * v) = part (count shape) numbers e b (3 * n) (c - b) (9 + 8 * u + 8 * v) (omega arith) (omega arith) (omega arith) in
        let ws : take (d - c) (drop c numbers) ≡ floats_at n bytes (9 + 8 * u + 8 * v + 8 * (3 * n)) = part (count shape) numbers e c n (d - c) (9 + 8 * u + 8 * v + 8 * (3 * n)) (omega arith) (omega arith) (omega arith) in
        simp (ku, kv, cs, ws)

    pub job_is : (n a b c d w : ℕ) → a ≡ knots shape.u → b ≡ a + knots shape.v → c ≡ b + 3 * controls shape → d ≡ c + controls shape → w ≡ size_of shape.window → (q : Queue) → q ≡ queue_at bytes (9 + 8 * d + w) n
        → marks_line n
        ++ row_lines (rowed (surface shape (take a numbers) (take (b - a) (drop a numbers)) (take (c - b) (drop b numbers)) (take (d - c) (drop c numbers))) (marks_of q bytes) q.progress.terms q.progress.left)
        ≡ job_lines (job_at shape n bytes)
    unfolding job_lines job_at
    job_is n a b c d w ha hb hc hd hw q hq =
        let e : 9 + 8 * d + w ≡ after shape = omega arith in
        rw (surface-is a b c d ha hb hc hd, hq, e, marks-length n (after shape + 18))

-- the queue read after the surface, of a file that has room for its marks
pub queue-fits : (bytes : List ℕ) (at n size room from : ℕ) (q : Queue) → q ≡ queue_at bytes at n → at + 18 + 26 * n ≤ size → from + 57 * (n + 1) ≤ room → Unshifted q.progress.terms × Roomy q size from room
queue-fits bytes at n size room from q e h k = rw e ((refl, refl), (h, k))

-- ---- the printout

pub laid-fits : (size : ℕ) (r : Layout) (shape : Shape) (n : ℕ) → Laid size r → r ≡ WellFormed shape n → Fits size shape n
laid-fits size r shape n l e = rw e at l

module _ (bytes : List ℕ) (r : Layout) (e : parse bytes ≡ told r bytes) where
  pub prints-refusal : r ≡ Malformed → refused_line 12 0 ≡ printout bytes
  unfolding printout printed told
  prints-refusal m = sym (rw (e, m))

  pub prints-job : (shape : Shape) (n : ℕ) → r ≡ WellFormed shape n → job_lines (job_at shape n bytes) ≡ printout bytes
  unfolding printout printed told
  prints-job shape n m = sym (rw (e, m))

pub put_front : {text t x y : List ℕ} {r : ℕ} → text ≡ t → r ≤ 72704 → Put 0 text x y r → (y ≡ t ++ drop r x) × ((r ≡ length t) × (r ≤ 72704))
unfolding written
put_front {text} {t} {x} {y} {r} e h p =
    let n : r ≡ length text = omega (arith, p.next-is) in
    rw (← e) (p.whole ∙ ap (λ (k : ℕ). text ++ drop k x) (sym p.next-is), (n, h))
