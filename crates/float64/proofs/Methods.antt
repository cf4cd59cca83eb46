-- The words of std's methods are those of the definitions. Assumes nothing.
use Rattle.std.specs.Prelude.{◌≡◌, refl, ℕ, ◌+◌, ◌*◌, ◌/◌, false, true, Float}
use Rattle.std.proofs.Common.{ap, sym, mul_comm}
use Rattle.std.specs.Float.{nan, inf, fin, binary64, float_with_sign, float_round, round_with}
use Rattle.std.specs.Float.Ieee.{up, down, round, lt, of_bits}
use Rattle.float64.specs.Functions.{is_finite, abs, round_away}

-- of the two tests against the infinities
pub finite_below : (x : Float) → lt x (of_bits binary64 0x7ff0_0000_0000_0000) ≡ true → lt (of_bits binary64 0xfff0_0000_0000_0000) x ≡ is_finite x
unfolding is_finite lt of_bits
finite_below nan h = refl
finite_below (inf true) h = refl
finite_below (inf false) h = sym h
finite_below (fin s m e) h = refl

pub finite_unless : (x : Float) → lt x (of_bits binary64 0x7ff0_0000_0000_0000) ≡ false → lt x (of_bits binary64 0x7ff0_0000_0000_0000) ≡ is_finite x
unfolding is_finite lt of_bits
finite_unless nan h = refl
finite_unless (inf s) h = h
finite_unless (fin s m e) h = refl

pub abs_is : (x : Float) → float_with_sign false x ≡ abs x
unfolding abs float_with_sign
abs_is nan = refl
abs_is (inf s) = refl
abs_is (fin s m e) = refl

pub round_is : (x : Float) → float_round binary64 x ≡ round_away x
unfolding round_away round_with
round_is nan = refl
round_is (inf s) = refl
round_is (fin true m e) = ap (λ (x : ℕ). round binary64 true ((x + down e) / (2 * down e)) 1) (mul_comm 2 (m * up e))
round_is (fin false m e) = ap (λ (x : ℕ). round binary64 false ((x + down e) / (2 * down e)) 1) (mul_comm 2 (m * up e))
