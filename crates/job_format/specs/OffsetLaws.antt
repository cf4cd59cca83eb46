-- Each piece, read at its place, is what `Offsets.antt` names there, and ends where the next begins. Assumes nothing.
use Rattle.std.specs.Prelude.{◌≡◌, Bool, length, drop, Float}
use Rattle.std.proofs.Math.Path.{refl, ap}
use Rattle.std.proofs.Common.{◌∙◌, drop-drop}
use Rattle.std.proofs.Math.Bool.{true, false}
use mathlib.Core.List.{List, ◌∷◌, ◌++◌}
use Prim.Native.Nat.{ℕ, zero, suc, ◌+◌, ◌*◌, ◌≤◌}
use Rattle.std.proofs.Math.Nat.{add-zero, zero-add}
use native.Mathlib.Omega.{arith}
use Rattle.std.proofs.Math.Dec.{leb}
use Rattle.std.proofs.Math.ListN.{get_or, length-drop}
use Rattle.std.proofs.Math.Seq.{get_or-drop}
use borrow.Author.Tests.{le-leb}
use Rattle.words.specs.Words.{little_endian}
use Rattle.job_format.specs.Format.{header_size, window_size, terms_size, mark_size, read, ◌then◌, number, float, floats, knots, controls, window, surface_numbers, terms, point}
use Rattle.job_format.specs.declared.Header.{Header}
use Rattle.job_format.specs.Offsets.{float_at, floats_at, count, size_of, window_at, shape_at, after, surface_at, terms_at, mark_at}

module _ (bytes : List ℕ) where
  pub from_front : (k at : ℕ) → little_endian k (drop at bytes) 0 ≡ little_endian k bytes at
  unfolding little_endian
  from_front zero at = refl
  from_front (suc k) at =
      let g : get_or (drop at bytes) (0 + k) 0 ≡ get_or bytes (at + k) 0 = get_or-drop at bytes (0 + k) 0 ∙ simp zero-add in
      simp (from_front k at, g)

  pub number_at : (k at : ℕ) → at + k ≤ length bytes → number k (drop at bytes) ≡ read (little_endian k bytes at) (drop (at + k) bytes)
  unfolding number
  number_at k at h =
      let l : leb k (length (drop at bytes)) ≡ true = le-leb k (length (drop at bytes)) (omega (arith, length-drop at bytes)) in
      simp (l, from_front k at, drop-drop)

  pub float-at : (at : ℕ) → at + 8 ≤ length bytes → float (drop at bytes) ≡ read (float_at bytes at) (drop (at + 8) bytes)
  unfolding float float_at ◌then◌
  float-at at h = simp (number_at 8 at h)

  pub floats-at : (n at : ℕ) → at + 8 * n ≤ length bytes → floats n (drop at bytes) ≡ read (floats_at n bytes at) (drop (at + 8 * n) bytes)
  unfolding floats floats_at ◌then◌
  floats-at zero at h = simp add-zero
  floats-at (suc n) at h =
      let e : at + 8 + 8 * n ≡ at + 8 * suc n = omega arith in
      simp (float-at at (omega arith), floats-at n (at + 8) (omega arith), e)

  pub window-at : (b : Bool) (at : ℕ) → at + size_of (window_at b bytes at) ≤ length bytes → window b (drop at bytes) ≡ read (window_at b bytes at) (drop (at + size_of (window_at b bytes at)) bytes)
  unfolding window window_at ◌then◌
  window-at false at h = simp add-zero
  window-at true at h =
      let second : at + 8 + 8 ≡ at + 16 = omega arith in
      let third : at + 16 + 8 ≡ at + 24 = omega arith in
      let end : at + 24 + 8 ≡ at + window_size = omega arith in
      simp (float-at at (omega arith), float-at (at + 8) (omega arith), second, float-at (at + 16) (omega arith), third, float-at (at + 24) (omega arith), end)

  pub numbers-at : (h : Header) → after (shape_at h bytes) ≤ length bytes → surface_numbers h (drop header_size bytes) ≡ read (surface_at (shape_at h bytes) bytes) (drop (after (shape_at h bytes)) bytes)
  unfolding surface_numbers surface_at ◌then◌
  numbers-at h le =
      let u = knots h.shape.u in
      let v = knots h.shape.v in
      let n = controls h.shape in
      let e : header_size + 8 * u + 8 * v + 8 * (3 * n) + 8 * n ≡ header_size + 8 * count h.shape = omega arith in
      simp (floats-at u header_size (omega arith), floats-at v (header_size + 8 * u) (omega arith), floats-at (3 * n) (header_size + 8 * u + 8 * v) (omega arith), floats-at n (header_size + 8 * u + 8 * v + 8 * (3 * n)) (omega arith), e, window-at h.windowed (header_size + 8 * count h.shape) le)

  module _ (at : ℕ) where
    e : at + 2 + 8 ≡ at + 10
    e = omega arith

    f : at + 10 + 8 ≡ at + 18
    f = omega arith

    pub terms-at : at + terms_size ≤ length bytes → terms (drop (at + 2) bytes) ≡ read (terms_at bytes at) (drop (at + terms_size) bytes)
    unfolding terms terms_at ◌then◌
    terms-at h = simp (float-at (at + 2) (omega arith), e, number_at 8 (at + 10) (omega arith), f)

    pub point_at : at + mark_size ≤ length bytes → point (drop (at + 2) bytes) ≡ read (mark_at bytes at) (drop (at + mark_size) bytes)
    unfolding point mark_at ◌then◌
    point_at h =
        let g : at + 18 + 8 ≡ at + mark_size = omega arith in
        simp (float-at (at + 2) (omega arith), e, float-at (at + 10) (omega arith), f, float-at (at + 18) (omega arith), g)

  -- ---- floats that follow each other

  pub floats-length : (n at : ℕ) → length (floats_at n bytes at) ≡ n
  unfolding floats_at
  floats-length zero at = refl
  floats-length (suc n) at = ap suc (floats-length n (at + 8))

  pub floats-split : (m n at : ℕ) → floats_at (m + n) bytes at ≡ floats_at m bytes at ++ floats_at n bytes (at + 8 * m)
  unfolding floats_at
  floats-split zero n at = simp (zero-add, add-zero)
  floats-split (suc m) n at =
      let k : suc m + n ≡ suc (m + n) = omega arith in
      let e : at + 8 + 8 * m ≡ at + 8 * suc m = omega arith in
      ap (λ (i : ℕ). floats_at i bytes at) k ∙ ap (λ (l : List Float). float_at bytes at ∷ l) (floats-split m n (at + 8) ∙ ap (λ (i : ℕ). floats_at m bytes (at + 8) ++ floats_at n bytes i) e)
