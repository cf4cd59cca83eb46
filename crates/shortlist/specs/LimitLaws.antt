-- The root of a point's squared distance need not be known where the square is not below a limit: the root is monotone. Assumes nothing.
use Rattle.std.specs.Prelude.{◌≡◌, true, false, T, List, length, get_or, Float}
use Rattle.std.proofs.Math.Path.{refl}
use Rattle.std.proofs.lemmas.Bool.{false≢true}
use Rattle.std.specs.Float.Ieee.{binary64, fits, lt, le, div, of_bits}
use Rattle.std.specs.Float.Ieee.Fits.{add-fits}
use Rattle.float64.specs.Operators.{◌⊘◌, 0·}
use Rattle.float64.specs.Functions.{root}
use Rattle.float64.specs.Order.{le_trans}
use Rattle.float64.specs.RootLaws.{root-monotone}
use Rattle.float64.specs.Nonneg.{nonneg-not-below, sum_nonneg, square-nonneg, finite-sub-number}
use Rattle.vector3.specs.declared.Vector3.{Vector3}
use Rattle.vector3.specs.Vector3.{sub, dot, norm, distance}
use Rattle.vector3.specs.Laws.{Finite}
use Rattle.shortlist.specs.declared.Start.{Start}
use Rattle.shortlist.specs.FirstSix.{start_at}
use Rattle.shortlist.specs.Insert.{Rising, Limits}
use Rattle.shortlist.specs.StartLaws.{full-stays}

-- of a point's distance
abbrev pub square_of : Vector3 → Vector3 → Float
square_of mark p = let away = sub p mark in dot away away

module _ (mark p : Vector3) where
  pub distance-is-root : distance p mark ≡ root (square_of mark p)
  unfolding distance norm
  distance-is-root = refl

  pub square-fits : T (fits binary64 (square_of mark p))
  unfolding dot
  square-fits = add-fits binary64 _ _

  pub square-not-below : Finite mark → Finite p → lt (square_of mark p) 0· ≡ false
  unfolding dot sub
  square-not-below f g =
      nonneg-not-below (sum_nonneg (sum_nonneg (square-nonneg _ (finite-sub-number _ _ g.x f.x)) (square-nonneg _ (finite-sub-number _ _ g.y f.y))) (square-nonneg _ (finite-sub-number _ _ g.z f.z)))

pub no-limit : (ss : List Start) → Limits (0· ⊘ 0·) ss
unfolding of_bits div le
no-limit ss = λ d x y f h. absurd (false≢true h)

-- six are kept, and a point whose squared distance is the limit is no nearer than the last
pub limit-at : (last : Start) (ss : List Start) (limit : Float) → Rising ss → length ss ≡ 6 → lt limit 0· ≡ false → T (fits binary64 limit) → le (get_or ss 5 last).distance (root limit) ≡ true → Limits limit ss
limit-at last ss limit r n b f h = λ d x y g l. full-stays (start_at (root d) x y) last ss r n (le_trans _ (root limit) _ h (root-monotone limit d f g b l))
