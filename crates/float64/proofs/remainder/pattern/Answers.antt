-- The shifts lose no digits.
use Rattle.std.specs.Prelude.{ℕ, ◌*◌, ◌^◌, ◌<◌}
use Rattle.std.proofs.Common.{inl, inr, arith, lt_of_le_of_lt, mul-le-mul_left, pow_mono}
use Rattle.float64.proofs.RemainderOfBits.{none, placed}
use Rattle.float64.proofs.remainder.pattern.Goals as goal

fewer : (d z s : ℕ) → z < s → d * 2 ^ s < 2 ^ 53 → d * 2 ^ z < 2 ^ 53
fewer d z s h l = lt_of_le_of_lt (mul-le-mul_left d (pow_mono {i = z} {j = s} (omega arith))) l

pub returns-then-digits-eq0 : goal.returns-then-digits-eq0
returns-then-digits-eq0 c = none _ _ (omega arith)

pub returns-then-zeros-shift : goal.returns-then-zeros-shift
returns-then-zeros-shift c =
    let l = fewer _ _ c.missing-shift.result c.if-zeros-shift.true c.missing-shift.ensures.2 in
    placed _ _ _ _ (omega arith) l (inr (omega arith)) (omega arith)

pub returns : goal.returns
returns c = let e = c.missing-shift.ensures in placed _ _ c.missing-shift.result _ (omega arith) e.2 (inl e.1) (omega arith)
