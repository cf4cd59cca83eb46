-- How many digits a number has, and text put after text. Assumes nothing.
use Rattle.std.specs.Prelude.{◌≡◌, refl, List, [], ◌∷◌, ◌++◌}
use Rattle.std.proofs.Math.Path.{sym, ap}
use Rattle.std.proofs.Common.{◌∙◌, append_assoc, add_assoc, arith, take-append-drop, take_at, drop-drop}
use Prim.Native.Nat.{ℕ, zero, suc, ◌+◌, ◌/◌, ◌%◌, ◌≤◌, ◌<◌}
use Rattle.std.proofs.Math.Nat.{add-zero}
use Rattle.std.proofs.Math.Numerals.{add-one}
use Rattle.std.proofs.Math.ListN.{length, take, drop, set, length-append, length-drop}
use Rattle.std.proofs.Math.Seq.{take-set-le, length-take-le, drop_at, set_split}
use Rattle.digits.specs.Text.{Put, digit, digits, written}

pub digits-length : (base k n : ℕ) → length (digits base k n) ≡ k
unfolding digits
digits-length base zero n = refl
digits-length base (suc k) n =
    length-append (digits base k (n / base)) (digit (n % base) ∷ []) ∙ omega (arith, digits-length base k (n / base))

-- ---- text after text

module _ (at : ℕ) (out : List ℕ) where
  pub written_none : written at [] out ≡ out
  unfolding written
  written_none = simp add-zero (take-append-drop at out)

  pub written-size : (text : List ℕ) → at + length text ≤ length out → length (written at text out) ≡ length out
  unfolding written
  written-size text h = simp (length-append, length-drop, length-take-le at out (omega arith)) (omega arith)

  -- what comes before the text, and with it
  front : (text : List ℕ) → at ≤ length out → take (at + length text) (written at text out) ≡ take at out ++ text
  unfolding written
  front text h =
      rw (← append_assoc)
      (take_at (take at out ++ text) _ (at + length text) (length-append (take at out) text ∙ omega (arith, length-take-le at out h)))

  back : (text : List ℕ) → at ≤ length out → drop (at + length text) (written at text out) ≡ drop (at + length text) out
  unfolding written
  back text h =
      rw (← append_assoc)
      (drop_at (take at out ++ text) _ (at + length text) (length-append (take at out) text ∙ omega (arith, length-take-le at out h)))

  seen : (a b w : List ℕ) → take (at + length a) w ≡ take at out ++ a → drop (at + length a + length b) w ≡ drop (at + length a + length b) out
      → written (at + length a) b w ≡ written at (a ++ b) out
  unfolding written
  seen a b w f g = simp (f, g) (simp (append_assoc, length-append, add_assoc))

  pub written_on : (a b : List ℕ) → at ≤ length out → written (at + length a) b (written at a out) ≡ written at (a ++ b) out
  written_on a b h =
      let d : drop (length b) (drop (at + length a) (written at a out)) ≡ drop (length b) (drop (at + length a) out) = ap (drop (length b)) (back a h) in
      seen a b (written at a out) (front a h) (sym (drop-drop (length b) (at + length a) (written at a out)) ∙ d ∙ drop-drop (length b) (at + length a) out)

  one : (d : ℕ) → at < length out → written at (d ∷ []) out ≡ set out at d
  unfolding written
  one d h = rw add-one (sym (set_split out at d h))

  -- the first byte of the text put first
  pub written-first : (d : ℕ) (t : List ℕ) → at < length out → written at (d ∷ t) out ≡ written (at + 1) t (set out at d)
  written-first d t h = sym (written_on (d ∷ []) t (omega arith)) ∙ ap (written (at + 1) t) (one d h)

  -- the last byte of the text put first
  pub written_last : (t : List ℕ) (d : ℕ) → at + length t < length out → written at (t ++ (d ∷ [])) out ≡ written at t (set out (at + length t) d)
  unfolding written
  written_last t d h =
      let p : length (take (at + length t) out) ≡ at + length t = length-take-le (at + length t) out (omega arith) in
      let f : take at (set out (at + length t) d) ≡ take at out = take-set-le at out (at + length t) d (omega arith) in
      let s : set out (at + length t) d ≡ take (at + length t) out ++ d ∷ drop (suc (at + length t)) out = set_split out (at + length t) d h in
      let b : drop (at + length t) (set out (at + length t) d) ≡ d ∷ drop (suc (at + length t)) out = ap (drop (at + length t)) s ∙ drop_at (take (at + length t) out) (d ∷ drop (suc (at + length t)) out) (at + length t) p in
      let n : at + length (t ++ (d ∷ [])) ≡ suc (at + length t) = simp length-append (omega arith) in
      sym (simp (f, b, n, append_assoc))

-- ---- calls one after another

pub put_then : {at mid end : ℕ} {a b x y z : List ℕ} → Put at a x y mid → Put mid b y z end → Put at (a ++ b) x z end
put_then {at} {mid} {end} {a} {b} {x} {y} {z} p q =
    record {
      whole = q.whole ∙ ap (λ (k : ℕ). written k b y) p.next-is ∙ ap (written (at + length a) b) p.whole ∙ written_on at x a b (omega (arith, p.next-is, p.inside));
      size = q.size ∙ p.size;
      next-is = omega (arith, p.next-is, q.next-is, length-append a b);
      inside = omega (arith, p.size, q.inside);
    }
