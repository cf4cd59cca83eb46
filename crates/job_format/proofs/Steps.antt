-- The steps of the loops, and what each test of a file says of it, over plain values. Assumes nothing.
use mathlib.Core.Path.{◌≡◌, refl, sym, ap, ◌∙◌}
use mathlib.Core.Bool.{Bool, true, false, cond}
use mathlib.Core.List.{List, [], ◌∷◌, ◌++◌, append_assoc}
use Prim.Native.Nat.{ℕ, suc, ◌+◌, ◌-◌, ◌*◌, ◌/◌, ◌%◌, ◌^◌, ◌≤◌, ◌<◌}
use native.Mathlib.Nat.{add-zero, sub-zero, mul-le-mul_left}
use native.Mathlib.Numerals.{add-one}
use native.Mathlib.Omega.{arith}
use lib.Dec.{leb}
use lib.ListN.{length, drop, get_or, set, length-drop, drop_of_length-le}
use lib.Seq.{drop-cons, set_at}
use lib.Ieee.{Float, nan}
use borrow.Author.Tests.{le-leb, leb-true, leb-false}
use Rattle.digits.specs.Text.{ascii}
use Rattle.domain.specs.declared.Window.{Window}
use Rattle.domain.specs.declared.Window.TheVariants.{Whole}
use Rattle.domain.specs.declared.Shape.{Shape}
use Rattle.domain.specs.Flags.{shape_of}
use Rattle.surface.specs.Surface.{Surface}
use Rattle.job_format.specs.Format.{most_bytes, header_size, window_size, terms_size, mark_size, Read, malformed, read, ◌then◌, mark, counts, header, with_window, terms_record, mark_record, mark_records, ended, to_the_end, after_surface, after_header, parse}
use Rattle.job_format.specs.declared.Header.{Header}
use Rattle.job_format.specs.Offsets.{Small, float_at, floats_at, count, size_of, after, window_at, shape_at, surface_at, terms_at, marks_at}
use Rattle.job_format.specs.OffsetLaws.{floats-length, floats-split, numbers-at, terms-at, point_at}
use Rattle.job_format.specs.ParseLaws.{short, header-stands, left_over, rest-stands, after-stands}
use Rattle.job_format.proofs.Pieces.{other-flags}

-- ---- numbers

module _ (bytes : List ℕ) (at i : ℕ) (numbers₀ numbers : List Float) (e : numbers ≡ floats_at i bytes at ++ drop i numbers₀) (h : i < length numbers₀) where
  pub decode-go : set numbers i (float_at bytes (at + 8 * i)) ≡ floats_at (i + 1) bytes at ++ drop (i + 1) numbers₀
  unfolding floats_at
  decode-go =
      let x = float_at bytes (at + 8 * i) in
      let d : drop i numbers₀ ≡ get_or numbers₀ i nan ∷ drop (i + 1) numbers₀ = rw add-one (drop-cons numbers₀ i nan h) in
      let s : floats_at (i + 1) bytes at ≡ floats_at i bytes at ++ (x ∷ []) = floats-split bytes i 1 at in
      ap (λ (l : List Float). set l i x) (e ∙ ap (λ (l : List Float). floats_at i bytes at ++ l) d)
      ∙ set_at (floats_at i bytes at) (get_or numbers₀ i nan) (drop (i + 1) numbers₀) x i (floats-length bytes i at)
      ∙ sym (ap (λ (l : List Float). l ++ drop (i + 1) numbers₀) s ∙ append_assoc (floats_at i bytes at) (x ∷ []) (drop (i + 1) numbers₀))

-- ---- marks

module _ (bytes : List ℕ) where
  -- what a test of n records from index `at` on says of them
  abbrev pub MarksRead : ℕ → ℕ → Bool → Type 0
  MarksRead n at t = mark_records n (drop at bytes) ≡ cond t (read (marks_at n bytes at) (drop (at + mark_size * n) bytes)) malformed

  -- and of one record's mark
  abbrev pub MarkRead : ℕ → ℕ → ℕ → Bool → Type 0
  MarkRead a b at t = mark (a ∷ b ∷ []) (drop at bytes) ≡ cond t (read tt (drop (at + 2) bytes)) malformed

  no-marks : (at : ℕ) → MarksRead 0 at true
  unfolding mark_records marks_at
  no-marks at = simp add-zero

  module _ (n at : ℕ) (h : at + mark_size ≤ length bytes) (t : Bool) (m : MarkRead 77 75 at t) where
    first-fails : t ≡ false → MarksRead (suc n) at false
    unfolding mark_records mark_record ascii ◌then◌
    first-fails f = simp (m, f)

    first_holds : t ≡ true → (r : Bool) → MarksRead n (at + mark_size) r → MarksRead (suc n) at r
    unfolding mark_records mark_record marks_at ascii ◌then◌
    first_holds f true e =
        let k : at + mark_size + mark_size * n ≡ at + mark_size * suc n = omega arith in
        simp (m, f, point_at bytes at h, e, k)
    first_holds f false e = simp (m, f, point_at bytes at h, e)

  module _ (at n : ℕ) where
    pub marks_begin : (r : Bool) → MarksRead (n - 0) (at + mark_size * 0) r → MarksRead n at r
    marks_begin r e = simp (sub-zero, add-zero) at e

    module _ (i : ℕ) where
      pub marks-over : n ≤ i → MarksRead (n - i) (at + mark_size * i) true
      marks-over h = let k : n - i ≡ 0 = omega arith in rw k (no-marks (at + mark_size * i))

      module _ (h : i < n) (inside : at + mark_size * n ≤ length bytes) (t : Bool) (m : MarkRead 77 75 (at + mark_size * i) t) where
        k : n - i ≡ suc (n - (i + 1))
        k = omega arith

        pub marks-stop : t ≡ false → MarksRead (n - i) (at + mark_size * i) false
        marks-stop f = rw k (first-fails (n - (i + 1)) (at + mark_size * i) (omega arith) t m f)

        pub marks-go : t ≡ true → (r : Bool) → MarksRead (n - (i + 1)) (at + mark_size * (i + 1)) r → MarksRead (n - i) (at + mark_size * i) r
        marks-go f r e =
            let next : at + mark_size * (i + 1) ≡ at + mark_size * i + mark_size = omega arith in
            rw k (first_holds (n - (i + 1)) (at + mark_size * i) (omega arith) t m f r (rw next at e))

-- ---- counts

pub product : (m n : ℕ) → m < 65536 → n < 65536 → m * n < 2 ^ 32
product m n h k = let l : m * n ≤ m * 65536 = mul-le-mul_left m (omega arith) in omega arith

module _ {du dv nu nv : ℕ} (hdu : du < 2 ^ 8) (hdv : dv < 2 ^ 8) (hnu : nu < 2 ^ 16) (hnv : nv < 2 ^ 16) where
  pub shape-small : (f : ℕ) → Small (shape_of du dv nu nv f Whole) × ((shape_of du dv nu nv f Whole).window ≡ Whole)
  unfolding shape_of
  shape-small f = (record { degree-u = hdu; degree-v = hdv; controls-u = hnu; controls-v = hnv }, refl)

-- ---- what follows the header

when-none : {A B : Type 0} (p : Read A) (f : A → List ℕ → Read B) → p ≡ malformed → (p then f) ≡ malformed
unfolding ◌then◌
when-none p f e = simp e

-- no bytes hold no terms
nothing-follows : (s : Surface) → after_surface s [] ≡ malformed
unfolding after_surface terms_record mark ascii ◌then◌
nothing-follows s = refl

module _ (bytes : List ℕ) (least : header_size ≤ length bytes) where
  module _ (h : Header) where
    abbrev shape : Shape
    shape = shape_at h bytes

    cut : length bytes < after shape → after_header h (drop header_size bytes) ≡ malformed
    cut few = short bytes (after-stands bytes h) least (omega arith)

    passed : after_header h (drop header_size bytes) ≡ after_surface (surface_at shape bytes) (drop (after shape) bytes)
    unfolding after_header ◌then◌
    passed = by (leb (after shape) (length bytes)) refl
      where
        by : (t : Bool) → leb (after shape) (length bytes) ≡ t → after_header h (drop header_size bytes) ≡ after_surface (surface_at shape bytes) (drop (after shape) bytes)
        by true e = simp (numbers-at bytes h (leb-true _ _ e))
        by false e =
            let few : length bytes < after shape = leb-false _ _ e in
            cut few ∙ sym (rw (drop_of_length-le bytes {i = after shape} (omega arith)) (nothing-follows (surface_at shape bytes)))

    module _ (whole : h.shape.window ≡ Whole) where
      -- with another shape
      passed-as : (s : Shape) → shape ≡ s → after_header h (drop header_size bytes) ≡ after_surface (surface_at s bytes) (drop (after s) bytes)
      passed-as s e = passed ∙ ap (λ (s : Shape). after_surface (surface_at s bytes) (drop (after s) bytes)) e

      pub windowless : h.windowed ≡ false → after_header h (drop header_size bytes) ≡ after_surface (surface_at h.shape bytes) (drop (after h.shape) bytes)
      unfolding window_at
      windowless f = passed-as h.shape (ap (λ (b : Bool). with_window h.shape (window_at b bytes (header_size + 8 * count h.shape))) f ∙ ap (with_window h.shape) (sym whole))

      module _ (at : ℕ) (e : at ≡ after h.shape) (t : h.windowed ≡ true) where
        here : at ≡ header_size + 8 * count h.shape
        here = omega (arith, ap size_of whole)

        found : shape ≡ with_window h.shape (window_at true bytes at)
        found = rw (t, ← here)

        pub window-cut : length bytes < at + window_size → after_header h (drop header_size bytes) ≡ malformed
        unfolding window_at
        window-cut few = cut (omega (arith, here, ap after found))

        pub windowed-by : (w : Window) → w ≡ window_at true bytes at → after_header h (drop header_size bytes) ≡ after_surface (surface_at (with_window h.shape w) bytes) (drop (after (with_window h.shape w)) bytes)
        windowed-by w q = passed-as (with_window h.shape w) (found ∙ ap (with_window h.shape) (sym q))

  module _ (s : Surface) (to at : ℕ) (e : at ≡ to) where
    pub cut_off : length bytes < at + terms_size → after_surface s (drop to bytes) ≡ malformed
    cut_off h = by (leb to (length bytes)) refl
      where
        by : (t : Bool) → leb to (length bytes) ≡ t → after_surface s (drop to bytes) ≡ malformed
        by true q = short bytes (rest-stands bytes s to) (leb-true _ _ q) (omega arith)
        by false q =
            let few : length bytes < to = leb-false _ _ q in
            rw (drop_of_length-le bytes {i = to} (omega arith)) (nothing-follows s)

    module _ (long : at + terms_size ≤ length bytes) (t : Bool) (m : MarkRead bytes 84 76 at t) where
      pub no-terms : t ≡ false → after_surface s (drop to bytes) ≡ malformed
      unfolding after_surface terms_record ascii ◌then◌
      no-terms f = rw (← e, m, f)

      module _ (holds : t ≡ true) where
        marks-found : after_surface s (drop to bytes) ≡ (to_the_end (drop (at + terms_size) bytes) then λ ps rest. read (record { surface = s; terms = terms_at bytes at; marks = ps }) rest)
        unfolding after_surface terms_record ascii ◌then◌
        marks-found = rw (← e, m, holds, terms-at bytes at long)

        abbrev left : ℕ
        left = length bytes - (at + terms_size)

        pub bytes_left : (left % mark_size ≡ 0 → ⊥) → after_surface s (drop to bytes) ≡ malformed
        bytes_left z = marks-found ∙ when-none _ _ (left_over bytes (at + terms_size) long z)

        module _ (n : ℕ) (n-is : n ≡ left / mark_size) (z : left % mark_size ≡ 0) (r : Bool) (p : MarksRead bytes n (at + terms_size) r) where
          end-found : (b : Bool) → r ≡ b → to_the_end (drop (at + terms_size) bytes) ≡ cond b (read (marks_at n bytes (at + terms_size)) []) malformed
          unfolding to_the_end ended ◌then◌
          end-found true q =
              let d : drop (at + terms_size + mark_size * n) bytes ≡ [] = drop_of_length-le bytes {i = at + terms_size + mark_size * n} (omega arith) in
              rw (length-drop (at + terms_size) bytes, ← n-is, p, q, d)
          end-found false q = rw (length-drop (at + terms_size) bytes, ← n-is, p, q)

          pub no-mark : r ≡ false → after_surface s (drop to bytes) ≡ malformed
          no-mark a = marks-found ∙ when-none _ _ (end-found false a)

          pub well-formed : r ≡ true → after_surface s (drop to bytes) ≡ read (record { surface = s; terms = terms_at bytes to; marks = marks_at n bytes (to + terms_size) }) []
          unfolding ◌then◌
          well-formed a = marks-found ∙ rw (end-found true a, ← e)

-- ---- the file

module _ (bytes : List ℕ) where
  module _ (few : length bytes ≤ most_bytes) where
    headless : header bytes ≡ malformed → parse bytes ≡ malformed
    unfolding parse ◌then◌
    headless e = simp (le-leb (length bytes) most_bytes few, e)

    pub no_header : length bytes < header_size → parse bytes ≡ malformed
    no_header h = headless (short bytes (header-stands bytes) (omega arith) h)

    module _ (least : header_size ≤ length bytes) (t : Bool) (m : MarkRead bytes 83 70 0 t) where
      pub no-surface : t ≡ false → parse bytes ≡ malformed
      unfolding header ascii ◌then◌
      no-surface f = headless (simp (m, f))

      module _ (holds : t ≡ true) where
        pub wrong-flags : 7 < get_or bytes 8 0 → parse bytes ≡ malformed
        unfolding header ascii ◌then◌
        wrong-flags h = headless (simp (m, holds, other-flags bytes least h))

        pub past-header : (h : Header) → counts (drop 2 bytes) ≡ read h (drop header_size bytes) → parse bytes ≡ after_header h (drop header_size bytes)
        unfolding parse header ascii ◌then◌
        past-header h e = simp (le-leb (length bytes) most_bytes few, m, holds, e)
