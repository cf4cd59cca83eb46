-- A job that is parsed is what stands at the offsets, so they are no second format; and a file that ends before its pieces do is malformed. Assumes nothing.
use Rattle.std.specs.Prelude.{◌≡◌, Bool, eqb}
use Rattle.std.proofs.Math.Path.{refl, ap}
use Rattle.std.proofs.Common.{sym, ◌∙◌, add-zero}
use Rattle.std.proofs.Math.Bool.{true, false, cond}
use mathlib.Core.List.{List, [], ◌∷◌}
use Prim.Native.Nat.{ℕ, zero, suc, ◌+◌, ◌-◌, ◌*◌, ◌/◌, ◌%◌, ◌≤◌, ◌<◌}
use Rattle.std.proofs.Math.Nat.{add_assoc}
use native.Mathlib.Omega.{arith}
use Rattle.std.proofs.Math.Dec.{leb}
use Rattle.std.proofs.Math.ListN.{length, drop, length-drop}
use Rattle.std.proofs.Math.Seq.{drop-drop}
use borrow.Author.Tests.{leb-true}
use Rattle.words.specs.Words.{little_endian}
use Rattle.digits.specs.Text.{ascii}
use Rattle.vector3.specs.declared.Vector3.{Vector3}
use Rattle.domain.specs.declared.Window.TheVariants.{Whole}
use Rattle.domain.specs.declared.Shape.{Shape}
use Rattle.domain.specs.Flags.{shape_of}
use Rattle.surface.specs.Surface.{Surface}
use Rattle.job_format.specs.Format.{most_bytes, header_size, terms_size, mark_size, Read, malformed, read, ◌then◌, mark, number, float, floats, flags, counts, header, knots, controls, window, surface_numbers, terms, terms_record, point, mark_record, mark_records, Job, ended, to_the_end, after_surface, after_header, parse}
use Rattle.job_format.specs.declared.Header.{Header}
use Rattle.job_format.specs.Offsets.{float_at, floats_at, count, size_of, after, window_at, shape_at, surface_at, terms_at, mark_at, marks_at, job_at}
use Rattle.job_format.specs.OffsetLaws.{from_front}

never : {A : Type 0} (a : A) (rest : List ℕ) → malformed ≡ read a rest → ⊥
never a rest e = let z : ◌≡◌ {A = ℕ} 0 1 = cc in omega arith

module _ (bytes : List ℕ) where
  -- a piece that is read at an index has k bytes there, and it is v
  pub record Stands {A : Type 0} (at k : ℕ) (p : List ℕ → Read A) (v : A) : Type 0 where
    pub as_read : (a : A) (rest : List ℕ) → p (drop at bytes) ≡ read a rest → at ≤ length bytes → (a ≡ v) × (rest ≡ drop (at + k) bytes) × (at + k ≤ length bytes)

  -- so where bytes are too few it is malformed
  pub short : {A : Type 0} {at k : ℕ} {p : List ℕ → Read A} {v : A} → Stands at k p v → at ≤ length bytes → length bytes < at + k → p (drop at bytes) ≡ malformed
  short {A} {at} {k} {p} {v} s h few = by (p (drop at bytes)) refl
    where
      by : (r : Read A) → p (drop at bytes) ≡ r → p (drop at bytes) ≡ malformed
      by malformed e = e
      by (read a rest) e = absurd (omega (arith, (s.as_read a rest e h).2))

  -- ---- pieces of every kind

  stands_read : {A : Type 0} {at : ℕ} {v : A} → Stands at 0 (read v) v
  stands_read {A} {at} {v} = record { as_read = λ a rest e h. (cc, simp add-zero (cc), omega arith) }

  stands-then : {A B : Type 0} {at j k : ℕ} {p : List ℕ → Read A} (f : A → List ℕ → Read B) {v : A} {w : B}
      → Stands at j p v → Stands (at + j) k (f v) w → Stands at (j + k) (λ xs. p xs then f) w
  unfolding ◌then◌
  stands-then {A} {B} {at} {j} {k} {p} f {v} {w} sp sf = record { as_read = λ b rest e h. by b rest (p (drop at bytes)) refl e h }
    where
      by : (b : B) (rest : List ℕ) (r : Read A) → p (drop at bytes) ≡ r → (r then f) ≡ read b rest → at ≤ length bytes → (b ≡ w) × (rest ≡ drop (at + (j + k)) bytes) × (at + (j + k) ≤ length bytes)
      by b rest malformed q e h = absurd (never b rest e)
      by b rest (read a mid) q e h =
          let s = sp.as_read a mid q h in
          let t = sf.as_read b rest (rw (s.0, s.1) at e) s.2 in
          (t.0, t.1 ∙ simp add_assoc, omega (arith, t.2))

  stands-as : {A : Type 0} {at j k : ℕ} {p : List ℕ → Read A} {v : A} → Stands at j p v → j ≡ k → Stands at k p v
  stands-as s e = rw (← e) s

  stands-if : {A : Type 0} {at k : ℕ} {p : List ℕ → Read A} {v : A} (t : Bool) → Stands at k p v → Stands at k (λ xs. cond t (p xs) malformed) v
  stands-if true s = s
  stands-if false s = record { as_read = λ a rest e h. absurd (never a rest e) }

  number-stands : (k at : ℕ) → Stands at k (number k) (little_endian k bytes at)
  unfolding number
  number-stands k at = record { as_read = λ a rest e h. by a rest (leb k (length (drop at bytes))) refl e h }
    where
      by : (a : ℕ) (rest : List ℕ) (t : Bool) → leb k (length (drop at bytes)) ≡ t → cond t (read (little_endian k (drop at bytes) 0) (drop k (drop at bytes))) malformed ≡ read a rest
          → at ≤ length bytes → (a ≡ little_endian k bytes at) × (rest ≡ drop (at + k) bytes) × (at + k ≤ length bytes)
      by a rest true q e h =
          (cc (from_front bytes k at), cc (drop-drop k at bytes), omega (arith, leb-true k (length (drop at bytes)) q, length-drop at bytes))
      by a rest false q e h = absurd (never a rest e)

  mark-stands : (ms : List ℕ) (at : ℕ) → Stands at (length ms) (mark ms) tt
  unfolding mark
  mark-stands ms at =
      record {
        as_read = λ a rest e h. let r = by ms (drop at bytes) rest e in
            (refl, r.0 ∙ drop-drop (length ms) at bytes, omega (arith, r.1, length-drop at bytes));
      }
    where
      by : (ms xs rest : List ℕ) → mark ms xs ≡ read tt rest → (rest ≡ drop (length ms) xs) × (length ms ≤ length xs)
      by [] xs rest e = (cc, omega arith)
      by (m ∷ ms) [] rest e = absurd (never tt rest e)
      by (m ∷ ms) (x ∷ xs) rest e = on (eqb x m) e (by ms xs rest)
        where
          on : (t : Bool) → cond t (mark ms xs) malformed ≡ read tt rest → (mark ms xs ≡ read tt rest → (rest ≡ drop (length ms) xs) × (length ms ≤ length xs)) → (rest ≡ drop (length ms) xs) × (suc (length ms) ≤ suc (length xs))
          on true e more = ((more e).0, omega (arith, (more e).1))
          on false e more = absurd (never tt rest e)

  float-stands : (at : ℕ) → Stands at 8 float (float_at bytes at)
  unfolding float float_at
  float-stands at = stands-then _ (number-stands 8 at) stands_read

  floats-stand : (n at : ℕ) → Stands at (8 * n) (floats n) (floats_at n bytes at)
  unfolding floats floats_at
  floats-stand zero at = stands_read
  floats-stand (suc n) at = stands-as (stands-then _ (float-stands at) (stands-then _ (floats-stand n (at + 8)) stands_read)) (omega arith)

  -- ---- the header

  flags-stand : (at : ℕ) → Stands at 1 flags (little_endian 1 bytes at)
  unfolding flags
  flags-stand at = stands-then _ (number-stands 1 at) (stands-if (leb (little_endian 1 bytes at) 7) stands_read)

  abbrev pub header_here : Header
  header_here = record { shape = shape_of (little_endian 1 bytes 2) (little_endian 1 bytes 3) (little_endian 2 bytes 4) (little_endian 2 bytes 6) (little_endian 1 bytes 8) Whole; windowed = eqb (little_endian 1 bytes 8 / 4 % 2) 1 }

  pub header-stands : Stands 0 header_size header header_here
  unfolding header counts ascii
  header-stands =
      stands-then _ (mark-stands (ascii "SF") 0) (stands-then _ (number-stands 1 2) (stands-then _ (number-stands 1 3) (stands-then _ (number-stands 2 4) (stands-then _ (number-stands 2 6) (stands-then _ (flags-stand 8) stands_read)))))

  -- ---- what follows it

  window-stands : (b : Bool) (at : ℕ) → Stands at (size_of (window_at b bytes at)) (window b) (window_at b bytes at)
  unfolding window window_at
  window-stands false at = stands_read
  window-stands true at =
      let second : at + 8 + 8 ≡ at + 16 = omega arith in
      let third : at + 8 + 8 + 8 ≡ at + 24 = omega arith in
      rw (← third, ← second) (stands-then _ (float-stands at) (stands-then _ (float-stands (at + 8)) (stands-then _ (float-stands (at + 8 + 8)) (stands-then _ (float-stands (at + 8 + 8 + 8)) stands_read))))

  surface-stands : (h : Header) → Stands header_size (8 * count h.shape + size_of (shape_at h bytes).window) (surface_numbers h) (surface_at (shape_at h bytes) bytes)
  unfolding surface_numbers surface_at
  surface-stands h =
      let u = knots h.shape.u in
      let v = knots h.shape.v in
      let n = controls h.shape in
      let at = header_size + 8 * count h.shape in
      let e : header_size + 8 * u + 8 * v + 8 * (3 * n) + 8 * n ≡ at = omega arith in
      let w : Stands (header_size + 8 * u + 8 * v + 8 * (3 * n) + 8 * n) (size_of (shape_at h bytes).window) (window h.windowed) (shape_at h bytes).window = rw e (window-stands h.windowed at) in
      stands-as
      (stands-then _ (floats-stand u header_size) (stands-then _ (floats-stand v (header_size + 8 * u)) (stands-then _ (floats-stand (3 * n) (header_size + 8 * u + 8 * v)) (stands-then _ (floats-stand n (header_size + 8 * u + 8 * v + 8 * (3 * n))) (stands-then _ w stands_read)))))
      (omega arith)

  module _ (at : ℕ) where
    second : at + 2 + 8 ≡ at + 10
    second = omega arith

    third : at + 2 + 8 + 8 ≡ at + 18
    third = omega arith

    terms-stand : Stands at terms_size terms_record (terms_at bytes at)
    unfolding terms_record terms terms_at ascii
    terms-stand = rw (← second) (stands-then _ (mark-stands (ascii "TL") at) (stands-then _ (float-stands (at + 2)) (stands-then _ (number-stands 8 (at + 2 + 8)) stands_read)))

    mark-record-stands : Stands at mark_size mark_record (mark_at bytes at)
    unfolding mark_record point mark_at ascii
    mark-record-stands =
        rw (← third, ← second) (stands-then _ (mark-stands (ascii "MK") at) (stands-then _ (float-stands (at + 2)) (stands-then _ (float-stands (at + 2 + 8)) (stands-then _ (float-stands (at + 2 + 8 + 8)) stands_read))))

  marks-stand : (n at : ℕ) → Stands at (mark_size * n) (mark_records n) (marks_at n bytes at)
  unfolding mark_records marks_at
  marks-stand zero at = stands_read
  marks-stand (suc n) at = stands-as (stands-then _ (mark-record-stands at) (stands-then _ (marks-stand n (at + mark_size)) stands_read)) (omega arith)

  abbrev room : ℕ → ℕ
  room at = length (drop at bytes) / mark_size

  end-stands : (at : ℕ) → Stands at (mark_size * room at) to_the_end (marks_at (room at) bytes at)
  unfolding to_the_end ended ◌then◌
  end-stands at = record { as_read = λ ps rest e h. by ps rest (mark_records (room at) (drop at bytes)) refl e h }
    where
      by : (ps : List Vector3) (rest : List ℕ) (r : Read (List Vector3)) → mark_records (room at) (drop at bytes) ≡ r → (r then ended) ≡ read ps rest
          → at ≤ length bytes → (ps ≡ marks_at (room at) bytes at) × (rest ≡ drop (at + mark_size * room at) bytes) × (at + mark_size * room at ≤ length bytes)
      by ps rest malformed q e h = absurd (never ps rest e)
      by ps rest (read a []) q e h = (marks-stand (room at) at).as_read ps rest (q ∙ e) h
      by ps rest (read a (x ∷ xs)) q e h = absurd (never ps rest e)

  pub left_over : (at : ℕ) → at ≤ length bytes → ((length bytes - at) % mark_size ≡ 0 → ⊥) → to_the_end (drop at bytes) ≡ malformed
  unfolding to_the_end ended ◌then◌
  left_over at h z = by (mark_records (room at) (drop at bytes)) refl
    where
      by : (r : Read (List Vector3)) → mark_records (room at) (drop at bytes) ≡ r → (r then ended) ≡ malformed
      by malformed q = refl
      by (read ps []) q = absurd (z (omega (arith, length-drop at bytes, length-drop (at + mark_size * room at) bytes, ap length ((marks-stand (room at) at).as_read ps [] q h).1)))
      by (read ps (x ∷ xs)) q = refl

  pub rest-stands : (s : Surface) (at : ℕ)
      → Stands at (terms_size + mark_size * room (at + terms_size)) (after_surface s) (record { surface = s; terms = terms_at bytes at; marks = marks_at (room (at + terms_size)) bytes (at + terms_size) })
  unfolding after_surface
  rest-stands s at = stands-as (stands-then _ (terms-stand at) (stands-then _ (end-stands (at + terms_size)) stands_read)) (omega arith)

  pub after-stands : (h : Header) → let shape = shape_at h bytes in Stands header_size (8 * count shape + size_of shape.window + (terms_size + mark_size * room (after shape + terms_size))) (after_header h) (job_at shape (room (after shape + terms_size)) bytes)
  unfolding after_header job_at
  after-stands h =
      let shape = shape_at h bytes in
      let e : header_size + (8 * count shape + size_of shape.window) ≡ after shape = omega arith in
      stands-then after_surface (surface-stands h) (rw e (rest-stands (surface_at shape bytes) (after shape)))

  -- ---- the file

  marks-length : (n at : ℕ) → length (marks_at n bytes at) ≡ n
  unfolding marks_at
  marks-length zero at = refl
  marks-length (suc n) at = ap suc (marks-length n (at + mark_size))

  module _ (job : Job) (rest : List ℕ) where
    as-parsed : parse bytes ≡ read job rest → let shape = shape_at header_here bytes in job ≡ job_at shape (room (after shape + terms_size)) bytes
    unfolding parse
    as-parsed e = by (leb (length bytes) most_bytes) e
      where
        by : (t : Bool) → cond t (header bytes then after_header) malformed ≡ read job rest → let shape = shape_at header_here bytes in job ≡ job_at shape (room (after shape + terms_size)) bytes
        by true e = ((stands-then after_header header-stands (after-stands header_here)).as_read job rest e (omega arith)).0
        by false e = absurd (never job rest e)

    -- its shape is the header's, with the window at its place
    pub parsed-shape : parse bytes ≡ read job rest → job.surface.shape ≡ shape_at header_here bytes
    unfolding job_at surface_at
    parsed-shape e = ap (λ (j : Job). j.surface.shape) (as-parsed e)

    pub parsed-stands : parse bytes ≡ read job rest → job ≡ job_at job.surface.shape (length job.marks) bytes
    unfolding job_at
    parsed-stands e =
        let here = shape_at header_here bytes in
        let n : length job.marks ≡ room (after here + terms_size) = ap (λ (j : Job). length j.marks) (as-parsed e) ∙ marks-length _ _ in
        as-parsed e ∙ ap (λ (shape : Shape). job_at shape (room (after here + terms_size)) bytes) (sym (parsed-shape e)) ∙ ap (λ (k : ℕ). job_at job.surface.shape k bytes) (sym n)
