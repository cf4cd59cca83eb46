-- What holds of the points of a survey, over any evaluation function. Assumes nothing.
use Rattle.std.specs.Prelude.{◌≡◌, Float}
use Rattle.std.proofs.Math.Path.{refl}
use mathlib.Core.List.{List, [], ◌∷◌}
use Rattle.vector3.specs.declared.Vector3.{Vector3}
use Rattle.price.specs.Price.{Priced, refused, answered, after, mapped}
use Rattle.price.specs.PriceLaws.{Answers}
use Rattle.patch.specs.declared.Jet.{Jet}
use Rattle.patch.specs.declared.Evaluated.{Evaluated}
use Rattle.patch.specs.declared.Evaluated.TheVariants.{Found, Refused}
use Rattle.patch.specs.Patch.{from_mark}
use Rattle.shortlist.specs.declared.Start.{Start}
use Rattle.shortlist.specs.FirstSix.{start_at}
use Rattle.seeds.specs.Grid.{seen, row_of, survey}

-- P holds of no points, and with one more that is found
module _ (mark : Vector3) (eval : Float → Float → Evaluated) (P : List Start → Type 0)
    (more : (x y : Float) (j : Jet) → eval x y ≡ Found j → (ps : List Start) → P ps → P (start_at (from_mark mark j) x y ∷ ps)) where
  abbrev pub Surveys : Priced (List Start) → Type 0
  Surveys s = Answers (λ ps n. P ps) s

  pub seen-surveys : (rest : Priced (List Start)) (x y : Float) (e : Evaluated) → eval x y ≡ e → Surveys rest → Surveys (seen mark eval rest x y e)
  unfolding seen after mapped
  seen-surveys rest x y Refused p h = tt
  seen-surveys (refused n) x y (Found j) p h = tt
  seen-surveys (answered ps n) x y (Found j) p h = more x y j p ps h

  pub row-surveys : (x : Float) (ys : List Float) (below : Priced (List Start)) → Surveys below → Surveys (row_of mark eval x ys below)
  unfolding row_of
  row-surveys x [] below h = h
  row-surveys x (y ∷ ys) below h = seen-surveys (row_of mark eval x ys below) x y (eval x y) refl (row-surveys x ys below h)

  pub survey-surveys : P [] → (us vs : List Float) → Surveys (survey mark eval us vs)
  unfolding survey
  survey-surveys h [] vs = h
  survey-surveys h (x ∷ us) vs = row-surveys x vs (survey mark eval us vs) (survey-surveys h us vs)
