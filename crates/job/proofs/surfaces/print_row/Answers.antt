-- `job::surfaces::print_row` meets its contract: the surface's refusal, or what follows its checks. Assumes nothing.
use mathlib.Core.Path.{sym}
use Rattle.scaled.specs.Accepted.{by_shape}
use Rattle.job.proofs.Steps.{put_as, lines-refused-surface, lines-by-shape}
use Rattle.job.proofs.surfaces.print_row.Goals as goal

pub print_checked-requires : goal.print_checked-requires
print_checked-requires c =
    let k = c in
    let e = k in
    let st = e in
    (by_shape (rw k.in-Accepted.is at e.accept.ensures), st.requires.0, st.requires.1)

pub returns-in-Refusal : goal.returns-in-Refusal
returns-in-Refusal c =
    let p = c in
    let k = p in
    let e = k in
    put_as (sym (lines-refused-surface _ _ _ _ _ (rw k.in-Refusal.is at e.accept.ensures))) p.put_refusal.ensures.put

pub returns-in-Accepted : goal.returns-in-Accepted
returns-in-Accepted c =
    let p = c in
    let k = p in
    let e = k in
    let a = rw k.in-Accepted.is at e.accept.ensures in
    put_as (lines-by-shape a.shape _ _ _ _ _ _ _) p.print_checked.ensures
