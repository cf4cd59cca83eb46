-- What a search on a surface that passed its checks answers: check 7, the plain steps, and the shift by periods. Definitions only.
use Rattle.std.specs.Prelude.{ℕ, ◌-◌, Bool, true, cond, ◌&&◌, Float}
use Rattle.std.specs.Float.Ieee.{lt, le}
use Rattle.float64.specs.Operators.{◌⊕◌, ◌⊖◌, ◌⊗◌, ◌⊘◌, 0·}
use Rattle.float64.specs.Functions.{is_finite, round_away}
use Rattle.vector3.specs.declared.Vector3.{Vector3}
use Rattle.vector3.specs.Vector3.{finite_vector}
use Rattle.price.specs.Price.{spend}
use Rattle.surface.specs.Surface.{Surface}
use Rattle.newton.specs.declared.Iterate.{Iterate}
use Rattle.inversion.specs.declared.Hint.{Hint}
use Rattle.inversion.specs.declared.Hint.TheVariants.{Nothing, At}
use Rattle.inversion.specs.declared.Choice.{Choice}
use Rattle.inversion.specs.declared.Answer.{Answer}
use Rattle.inversion.specs.declared.Answer.TheVariants.{Chosen, Refused, Spent}
use Rattle.inversion.specs.Inversion.{inversion_by, answer_of}
use Rattle.chart.specs.declared.Period.{Period}
use Rattle.chart.specs.declared.Period.TheVariants.{Free, Every}
use Rattle.chart.specs.declared.Terms.{Terms}
use Rattle.chart.specs.declared.Placing.{Placing}
use Rattle.chart.specs.declared.Placing.TheVariants.{Pair, Refusal}

-- ---- check 7

unfoldable pub sound_hint : Hint → Bool
sound_hint Nothing = true
sound_hint (At u v) = is_finite u && is_finite v

unfoldable pub sound_period : Period → Bool
sound_period Free = true
sound_period (Every p) = is_finite p && lt 0· p

-- of all but the mark
unfoldable pub sound_terms : Terms → Bool
sound_terms t = sound_hint t.hint && (is_finite t.tolerance && le 0· t.tolerance) && sound_period t.u && sound_period t.v

unfoldable pub sound_search : Vector3 → Terms → Bool
sound_search mark t = finite_vector mark && sound_terms t

-- ---- the shift by periods, to the hint's turn

unfoldable pub nearest_to : Float → Float → Float → Float
nearest_to value hint period = value ⊕ period ⊗ round_away ((hint ⊖ value) ⊘ period)

unfoldable pub shifted : Period → Float → Float → Float
shifted Free hint value = value
shifted (Every p) hint value = nearest_to value hint p

unfoldable pub turned_to : Hint → Period → Period → Iterate → Iterate
turned_to Nothing pu pv p = p
turned_to (At u v) pu pv p = record { u = shifted pu u p.u; v = shifted pv v p.v; distance = p.distance }

-- the pair alone
abbrev pub turned : Terms → Choice → Choice
turned t c = record { end = record { at = turned_to t.hint t.u t.v c.end.at; ending = c.end.ending }; origin = c.origin }

-- ---- the search

-- 9 where an evaluation refused, 8 where no unit was left: then all are taken
unfoldable pub placing_of : ℕ → Terms → Answer → Placing
placing_of budget t (Chosen c n) = Pair (turned t c) n
placing_of budget t (Refused n) = Refusal 9 n
placing_of budget t Spent = Refusal 8 budget

unfoldable pub placed_by : Surface → Float → Vector3 → Terms → ℕ → Bool → Placing
placed_by s m mark t budget sound = cond sound (placing_of budget t (answer_of (spend budget (inversion_by s m mark t.hint t.tolerance)))) (Refusal 7 0)

abbrev pub taken_of : Placing → ℕ
taken_of (Pair c n) = n
taken_of (Refusal number n) = n

-- ---- 01's values of an answer: its number, 0 for a pair, and the budget left

unfoldable pub number_of : Placing → ℕ
number_of (Pair c n) = 0
number_of (Refusal number n) = number

unfoldable pub left_of : ℕ → Placing → ℕ
left_of budget (Pair c n) = budget - n
left_of budget (Refusal number n) = budget - n
