-- Both invariants say what holds between two evaluations, and that what the whole comes to is what is left.
use mathlib.Core.Path.{◌≡◌}
use native.Mathlib.Omega.{arith}
use lib.ListN.{length}
use borrow.Author.Rules.{rules}
use Rattle.vector3.specs.Laws.{Finite}
use Rattle.surface.specs.SurfaceLaws.{accepted-surface}
use Rattle.surface.specs.EvaluateLaws.{evaluate-finite}
use Rattle.scaled.specs.Accepted.{not-refused}
use Rattle.seeds.specs.Finite.{from-mark-number}
use Rattle.shortlist.specs.Insert.{Sound}
use Rattle.shortlist.proofs.Places.{left_out, keepable, put_in}
use Rattle.seeds.proofs.TableSteps.{none-weighed, shown, not-shown}
use Rattle.seeds.proofs.WalkSteps.{walk_begins, row-begins, grid-ends, row_ends, row-spent, row-refused, row_goes}
use Rattle.seeds.proofs.survey.walk.Goals as goal
use Rattle.seeds.proofs.survey.walk.Goals.{then-not-beyond, else-not-beyond}

-- ---- the needs
pub fill_table-requires : goal.fill_table-requires
fill_table-requires c =
    let a = c in
    ((accepted-surface _ (not-refused a.requires.0)).knots-v, λ b. (a.requires.0.bounded b).v, a.requires.2, search rules, search rules)

pub loop-i-init : goal.loop-i-init
loop-i-init c =
    let a = c in
    let n : length a.args.us.at ≡ 193 = search rules in
    let m : length a.args.vs.at ≡ 193 = search rules in
    (walk_begins (from-mark-number _ _ _ a.requires.3) (omega arith) (omega arith) _ c.no_starts-shortlist.ensures, search rules)

pub first_of-row-requires : goal.first_of-row-requires
first_of-row-requires c =
    let a = c in
    ((accepted-surface _ (not-refused a.requires.0)).knots-u, λ b. (a.requires.0.bounded b).u, search rules)

pub loop-j-init : goal.loop-j-init
loop-j-init c =
    let row = c in
    let at = row.loop-i in
    (row-begins at.invariant.0 row.loop-i-test.true, none-weighed at.invariant.1)

pub returns-then-taken-budget : goal.returns-then-taken-budget
returns-then-taken-budget c =
    let at = c in
    row-spent at.loop-j.invariant.0 at.loop-j-test.true c.if-taken-budget.true c.walked.ensures

pub point_at-requires : goal.point_at-requires
point_at-requires c =
    let at = c in
    let l = at.loop-j in
    record {
      accepts = c.requires.0;
      functions_u = at.first_of-row.ensures;
      functions_v = c.fill_table.ensures.known l.j at.loop-j-test.true;
      weights = l.invariant.1;
    }

pub returns-in_default : goal.returns-in_default
returns-in_default c =
    let jet = c in
    let paid = c in
    let at = paid in
    row-refused at.loop-j.invariant.0 at.loop-j-test.true paid.if-taken-budget.false (not-shown _ jet.point_at.ensures.value c.in_default.is) c.walked-in_default.ensures

pub keep-shortlist-requires : goal.keep-shortlist-requires
keep-shortlist-requires c =
    let takeable : (let at = c in Sound at.loop-j.shortlist × Finite c.args.mark × Finite c.in-At.point) = let at = c in let p = shown _ c.point_at.ensures.value c.in-At.is in (at.loop-j.invariant.0.stands.sound, c.requires.3, rw p.point (evaluate-finite _ _ _ _ p.jet p.found).point) in
    let m = c in
    keepable _ _ m.square_of-square.ensures takeable

pub overflow_step-j : goal.overflow_step-j
overflow_step-j c =
    let at = c in
    record { fits = omega (arith, at.loop-j-test.true, c.requires.2) }

pub loop-j-preserved : goal.loop-j-preserved
loop-j-preserved c =
    let takeable : (let at = c in Sound at.loop-j.shortlist × Finite c.args.mark × Finite c.in-At.point) = let at = c in let p = shown _ c.point_at.ensures.value c.in-At.is in (at.loop-j.invariant.0.stands.sound, c.requires.3, rw p.point (evaluate-finite _ _ _ _ p.jet p.found).point) in
    let m = c in
    let paid = c in
    let at = paid in
    let p = shown _ c.point_at.ensures.value m.in-At.is in
    let e = m.square_of-square.ensures in (
      row_goes at.loop-j.invariant.0 at.loop-j-test.true paid.if-taken-budget.false p.jet p.found p.point (elim c.if-not-beyond.branch [
        | then-not-beyond w ↦ rw w.shortlist-is (put_in _ _ e takeable _ _ w.keep-shortlist.ensures)
        | else-not-beyond w ↦ rw w.shortlist-is (left_out _ _ e takeable _ _ w.if-not-beyond.false)
      ]),
      c.point_at.ensures.net_for,
    )

pub loop-i-preserved : goal.loop-i-preserved
loop-i-preserved c =
    let l = c.loop-j in
    (row_ends l.invariant.0 c.loop-j-test.false, l.invariant.1.whole)

pub returns : goal.returns
returns c = grid-ends c.loop-i.invariant.0 c.loop-i-test.false c.walked-2.ensures
