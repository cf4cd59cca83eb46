-- The loops over a patch, turn by turn, and the room that they have. Assumes nothing.
use mathlib.Core.Path.{◌≡◌, refl, ◌∙◌}
use mathlib.Core.Logic.{⊎_elim}
use mathlib.Core.List.{List}
use Prim.Native.Nat.{ℕ, suc, ◌+◌, ◌*◌, ◌≤◌, ◌<◌}
use native.Mathlib.Nat.{zero-add, suc-mul, mul-le-mul_right, eq-or-lt_of_le}
use native.Mathlib.Numerals.{add-one}
use native.Mathlib.Omega.{arith}
use lib.ListN.{length, get_or, set, length-set}
use lib.Seq.{get_or-set_same, get_or-set_other}
use lib.Ieee.{Float, nan}
use Rattle.float64.specs.Operators.{◌⊘◌}
use Rattle.domain.specs.declared.Shape.{Shape}
use Rattle.net.specs.Sums.{turns, rows_of, columns_of, share_in, heaviest}
use Rattle.net.specs.Net.{Patch, Holds, WeighedNet, Put}
use Rattle.net.specs.NetLaws.{before-row, patch-room}

module _ {T : Type 0} (f : ℕ → T → T) where
  pub one-turn : (k : ℕ) (t : T) {x y : T} → y ≡ turns f k t → x ≡ f k y → x ≡ turns f (k + 1) t
  unfolding turns
  one-turn k t e h = rw (add-one, ← e) h

  pub no-turn : (t : T) → t ≡ turns f 0 t
  unfolding turns
  no-turn t = refl

-- row number i of a patch has its place in an array
pub row_room : {shape : Shape} {row column : ℕ} → Patch shape row column → (i : ℕ) → i < rows_of shape → i * columns_of shape + columns_of shape ≤ 289
row_room {shape} p i h =
    omega (arith, suc-mul i (columns_of shape), mul-le-mul_right {m = suc i} {n = rows_of shape} (columns_of shape) h, patch-room p)

-- ---- writing

module _ (f : ℕ → Float) (from : ℕ) where
  pub nothing_put : {net : List Float} → length net ≡ 289 → Put f from 0 net net
  nothing_put e = record { whole = e; there = λ q h. absurd (omega arith); below = λ q h. refl; beyond = λ q h. refl }

  pub one-put : {k : ℕ} {before net : List Float} → Put f from k before net → from + k < 289 → {x : Float} → x ≡ f k → Put f from (k + 1) before (set net (from + k) x)
  one-put {k} {before} {net} p h {x} e = record {
    whole = simp length-set p.whole;
    there = λ q l. ⊎_elim (λ a. rw (a, get_or-set_same net (from + k) x nan (omega (arith, p.whole))) e) (λ a. other (from + q) (λ z. absurd (omega arith)) ∙ p.there q a) (eq-or-lt_of_le (omega arith));
    below = λ q l. other q (λ z. absurd (omega arith)) ∙ p.below q l;
    beyond = λ q l. other q (λ z. absurd (omega arith)) ∙ p.beyond q (omega arith);
  }
    where
      other : (q : ℕ) → (q ≡ from + k → ⊥) → get_or (set net (from + k) x) q nan ≡ get_or net q nan
      other q n = get_or-set_other net (from + k) q x nan n

module _ {columns : ℕ} {f : ℕ → ℕ → Float} where
  pub no-row-held : {net : List Float} → length net ≡ 289 → Holds 0 columns f net
  no-row-held e = record { whole = e; each = λ i j h l. absurd (omega arith) }

  pub row-held : {n : ℕ} {before net : List Float} → Holds n columns f before → Put (f n) (n * columns) columns before net → Holds (n + 1) columns f net
  row-held {n} {before} {net} b p = record { whole = p.whole; each = λ i j h l. ⊎_elim (λ a. by i j l a) (λ a. p.below _ (before-row i j columns n a l) ∙ b.each i j a l) (eq-or-lt_of_le (omega arith)) }
    where
      by : (i j : ℕ) → j < columns → i ≡ n → get_or net (i * columns + j) nan ≡ f i j
      by i j l e = rw e (p.there j l)

-- divided by the largest
pub twice-divided : (shape : Shape) (row column : ℕ) (ws : List Float) (m : Float) {k : Float} {shares net : List Float} → k ≡ heaviest shape row column ws m
    → Holds (rows_of shape) (columns_of shape) (share_in shape row column ws m) shares → Put (λ q. get_or shares q nan ⊘ k) 0 (rows_of shape * columns_of shape) shares net → WeighedNet shape ws m row column net
twice-divided shape row column ws m e h p = record {
  whole = p.whole;
  each = λ i j a b.
      rw zero-add at (p.there (i * columns_of shape + j) (before-row i j (columns_of shape) (rows_of shape) a b)) ∙ rw (e, h.each i j a b);
}
