-- Where a patch stands in its net, and what turns keep. Assumes nothing.
use Rattle.std.specs.Prelude.{◌≡◌}
use Rattle.std.proofs.Math.Path.{refl, ap}
use Rattle.std.proofs.Common.{◌∙◌, le_trans, suc-mul, mul-le-mul, mul-le-mul_right, arith, lit≤}
use Prim.Native.Nat.{ℕ, zero, suc, ◌+◌, ◌*◌, ◌≤◌, ◌<◌}
use Rattle.domain.specs.declared.Shape.{Shape}
use Rattle.net.specs.Sums.{turns, rows_of, columns_of, over_patch}
use Rattle.net.specs.Net.{Patch}

-- ---- where a patch stands

-- control j of row i comes before those of row r
pub before-row : (i j k r : ℕ) → i < r → j < k → i * k + j < r * k
before-row i j k r h l = omega (arith, suc-mul i k, mul-le-mul_right {m = suc i} {n = r} k h)

module _ {shape : Shape} {row column : ℕ} (p : Patch shape row column) where
  pub patch-room : rows_of shape * columns_of shape ≤ 289
  patch-room =
      let rows : rows_of shape ≤ 17 = omega (arith, p.rows-most) in
      let columns : columns_of shape ≤ 17 = omega (arith, p.columns-most) in
      le_trans (mul-le-mul rows columns) (lit≤ tt)

  -- row number i ends in the net
  pub row_inside : (i : ℕ) → i < rows_of shape → (row + i) * shape.v.controls + column + columns_of shape ≤ shape.u.controls * shape.v.controls
  row_inside i h =
      let n = shape.v.controls in
      omega (arith, p.across, suc-mul (row + i) n, mul-le-mul_right {m = suc (row + i)} {n = shape.u.controls} n (omega (arith, p.down)))

-- ---- turns

-- what each turn keeps
pub turns-keep : {T : Type 0} (P : ℕ → T → Type 0) (f : ℕ → T → T) (k : ℕ) → ((n : ℕ) → n < k → (t : T) → P n t → P (suc n) (f n t)) → (t : T) → P 0 t → P k (turns f k t)
unfolding turns
turns-keep P f zero h t p = p
turns-keep P f (suc k) h t p = h k (omega arith) _ (turns-keep P f k (λ n l. h n (omega arith)) t p)

-- the part π of what is summed, of which g is the turn
module _ {S T : Type 0} (π : S → T) where
  turns-part : (f : ℕ → S → S) (g : ℕ → T → T) (k : ℕ) → ((n : ℕ) → n < k → (s : S) → π (f n s) ≡ g n (π s)) → (s : S) → π (turns f k s) ≡ turns g k (π s)
  unfolding turns
  turns-part f g zero h s = refl
  turns-part f g (suc k) h s = h k (omega arith) _ ∙ ap (g k) (turns-part f g k (λ n l. h n (omega arith)) s)

  pub over-part : (shape : Shape) (f : ℕ → ℕ → S → S) (g : ℕ → ℕ → T → T) → ((i j : ℕ) → i < rows_of shape → j < columns_of shape → (s : S) → π (f i j s) ≡ g i j (π s))
      → (s : S) → π (over_patch shape f s) ≡ over_patch shape g (π s)
  over-part shape f g h s = turns-part _ _ _ (λ i l. turns-part (f i) (g i) _ (λ j m. h i j l m)) s
