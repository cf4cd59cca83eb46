-- The price of steps is the number of pairs that they evaluate. Laws for every evaluation function. Assumes nothing.
use Rattle.std.proofs.Math.Path.{◌≡◌, refl, ap}
use Rattle.std.proofs.Common.{sym, ◌∙◌, arith, length-append}
use mathlib.Core.List.{List, [], ◌∷◌, ◌++◌}
use Rattle.std.specs.Prelude.{ℕ, ◌+◌, length, Float}
use Rattle.patch.specs.declared.Jet.{Jet}
use Rattle.patch.specs.declared.Evaluated.{Evaluated}
use Rattle.patch.specs.declared.Evaluated.TheVariants.{Found, Refused}
use Rattle.price.specs.Price.{Priced, refused, answered, price, after, mapped, ◌then◌}
use Rattle.price.specs.PriceLaws.{after-price}
use Rattle.price.specs.Evaluations.{Pair, unless_refused, until}

module _ (eval : Float → Float → Evaluated) where
  abbrev pub FoundAt : Pair → Type 0
  FoundAt p = (j : Jet) × (eval p.0 p.1 ≡ Found j)

  abbrev pub RefusedAt : Pair → Type 0
  RefusedAt p = eval p.0 p.1 ≡ Refused

  abbrev pub AllFound : List Pair → Type 0
  AllFound [] = Unit {0}
  AllFound (p ∷ ps) = FoundAt p × AllFound ps

  -- the last is refused, and every one before it is found
  pub data LastRefused : List Pair → Type 0 where
    last : {p : Pair} → RefusedAt p → LastRefused (p ∷ [])
    before : {p : Pair} {ps : List Pair} → FoundAt p → LastRefused ps → LastRefused (p ∷ ps)

  abbrev pub Ending : {A : Type 0} → Priced A → List Pair → Type 0
  Ending (refused n) ps = LastRefused ps
  Ending (answered a n) ps = AllFound ps

  -- "The price is the evaluations .. Where an evaluation refuses, it is those made up to then in the source's order, the refused one included": the steps evaluate these pairs, in this order, and no more.
  pub record Evaluates {A : Type 0} (r : Priced A) (ps : List Pair) : Type 0 where
    pub count : price r ≡ length ps
    pub ending : Ending r ps

  -- ---- what is cut off after the first that is refused

  never_both : {p : Pair} → FoundAt p → RefusedAt p → {A : Type 0} → A
  never_both f r = let j = f.0 in let e = f.1 in absurd (let z : ◌≡◌ {A = ℕ} 0 1 = cc in omega arith)

  found-whole : (ps : List Pair) → AllFound ps → until eval ps ≡ ps
  unfolding until unless_refused
  found-whole [] h = refl
  found-whole (p ∷ ps) h = rw h.0.1 (ap (λ qs. p ∷ qs) (found-whole ps h.1))

  refused-whole : {ps : List Pair} → LastRefused ps → until eval ps ≡ ps
  unfolding until unless_refused
  refused-whole (last r) = rw r
  refused-whole (before {p = p} f h) = rw f.1 (ap (λ qs. p ∷ qs) (refused-whole h))

  found-append : (ps qs : List Pair) → AllFound (until eval ps) → until eval (ps ++ qs) ≡ until eval ps ++ until eval qs
  unfolding until unless_refused
  found-append [] qs h = refl
  found-append (p ∷ ps) qs h = by (eval p.0 p.1) refl h (found-append ps qs)
    where
      by : (e : Evaluated) → eval p.0 p.1 ≡ e → AllFound (p ∷ unless_refused e (until eval ps)) → (AllFound (until eval ps) → until eval (ps ++ qs) ≡ until eval ps ++ until eval qs)
          → ◌≡◌ {A = List Pair} (p ∷ unless_refused e (until eval (ps ++ qs))) ((p ∷ unless_refused e (until eval ps)) ++ until eval qs)
      by Refused r k rest = never_both k.0 r
      by (Found j) f k rest = ap (λ xs. p ∷ xs) (rest k.1)

  refused-append : (ps qs : List Pair) → LastRefused (until eval ps) → until eval (ps ++ qs) ≡ until eval ps
  unfolding until unless_refused
  refused-append [] qs h = elim h [ ]
  refused-append (p ∷ ps) qs h = by (eval p.0 p.1) refl h (refused-append ps qs)
    where
      onward : {xs : List Pair} → FoundAt p → LastRefused (p ∷ xs) → LastRefused xs
      onward f (last r) = never_both f r
      onward f (before g k) = k

      by : (e : Evaluated) → eval p.0 p.1 ≡ e → LastRefused (p ∷ unless_refused e (until eval ps)) → (LastRefused (until eval ps) → until eval (ps ++ qs) ≡ until eval ps)
          → ◌≡◌ {A = List Pair} (p ∷ unless_refused e (until eval (ps ++ qs))) (p ∷ unless_refused e (until eval ps))
      by Refused r k rest = refl
      by (Found j) f k rest = ap (λ xs. p ∷ xs) (rest (onward (j, f) k))

  -- ---- steps after steps

  module _ {A : Type 0} where
    ending-after : (n : ℕ) (ps qs : List Pair) (r : Priced A) → AllFound ps → Ending r qs → Ending (after n r) (ps ++ qs)
    unfolding after
    ending-after n [] qs (refused k) f h = h
    ending-after n [] qs (answered a k) f h = h
    ending-after n (p ∷ ps) qs (refused k) f h = before f.0 (ending-after n ps qs (refused k) f.1 h)
    ending-after n (p ∷ ps) qs (answered a k) f h = (f.0, ending-after n ps qs (answered a k) f.1 h)

    -- steps after so many evaluations that were found
    pub after-evaluates : (ps qs : List Pair) (r : Priced A) → AllFound ps → Evaluates r qs → Evaluates (after (length ps) r) (ps ++ qs)
    after-evaluates ps qs r f h = record {
      count = after-price (length ps) r ∙ ap (λ n. length ps + n) h.count ∙ sym (length-append ps qs);
      ending = ending-after (length ps) ps qs r f h.ending;
    }

    -- all of them were made
    pub evaluates-whole : (ps : List Pair) (r : Priced A) → Evaluates r ps → Evaluates r (until eval ps)
    evaluates-whole ps r h = rw (by r h.ending) h
      where
        by : (r : Priced A) → Ending r ps → until eval ps ≡ ps
        by (refused n) e = refused-whole e
        by (answered a n) e = found-whole ps e

  module _ {A B : Type 0} where
    pub mapped-evaluates : (f : A → B) (ps : List Pair) (r : Priced A) → Evaluates r ps → Evaluates (mapped f r) ps
    unfolding mapped
    mapped-evaluates f ps (refused n) h = record { count = h.count; ending = h.ending }
    mapped-evaluates f ps (answered a n) h = record { count = h.count; ending = h.ending }

    -- what follows is evaluated only where nothing before was refused
    pub then-evaluates : (ps qs : List Pair) (f : A → Priced B) (r : Priced A) → Evaluates r (until eval ps) → ((a : A) (n : ℕ) → r ≡ answered a n → Evaluates (f a) (until eval qs))
        → Evaluates (r then f) (until eval (ps ++ qs))
    unfolding ◌then◌
    then-evaluates ps qs f (refused n) h rest = rw (refused-append ps qs h.ending) (record { count = h.count; ending = h.ending })
    then-evaluates ps qs f (answered a n) h rest = rw (found-append ps qs h.ending, h.count) (after-evaluates (until eval ps) (until eval qs) (f a) h.ending (rest a n refl))
