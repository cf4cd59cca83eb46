-- `job_format::after_surface` meets its contract: each test that fails is a piece that is malformed. Assumes nothing.
use mathlib.Core.Path.{refl}
use native.Mathlib.Omega.{arith}
use Rattle.job_format.specs.Offsets.{after, surface_at, job_at, told}
use Rattle.job_format.proofs.Steps.{cut_off, no-terms, bytes_left, no-mark, well-formed}
use Rattle.job_format.proofs.after_surface.Goals as goal

pub returns-then-bytes-at : goal.returns-then-bytes-at
unfolding told
returns-then-bytes-at c =
    record { bytes_value = cut_off c.args.bytes.now c.requires.0 (surface_at c.args.shape c.args.bytes.now) (after c.args.shape) c.surface_end-at.result c.surface_end-at.ensures.0 c.if-bytes-at.true; laid = tt }

pub returns-then-not-is_mark : goal.returns-then-not-is_mark
unfolding told
returns-then-not-is_mark c =
    record { bytes_value = no-terms c.args.bytes.now c.requires.0 (surface_at c.args.shape c.args.bytes.now) (after c.args.shape) c.surface_end-at.result c.surface_end-at.ensures.0 c.if-bytes-at.false c.is_mark.result c.is_mark.ensures c.if-not-is_mark.true; laid = tt }

pub returns-then-left-ne0 : goal.returns-then-left-ne0
unfolding told
returns-then-left-ne0 c =
    record { bytes_value = bytes_left c.args.bytes.now c.requires.0 (surface_at c.args.shape c.args.bytes.now) (after c.args.shape) c.surface_end-at.result c.surface_end-at.ensures.0 c.if-bytes-at.false c.is_mark.result c.is_mark.ensures c.if-not-is_mark.false (λ z. omega arith); laid = tt }

pub returns-then-not-all_marks : goal.returns-then-not-all_marks
unfolding told
returns-then-not-all_marks c =
    record { bytes_value = no-mark c.args.bytes.now c.requires.0 (surface_at c.args.shape c.args.bytes.now) (after c.args.shape) c.surface_end-at.result c.surface_end-at.ensures.0 c.if-bytes-at.false c.is_mark.result c.is_mark.ensures c.if-not-is_mark.false _ refl c.if-left-ne0.false c.all_marks.result c.all_marks.ensures c.if-not-all_marks.true; laid = tt }

pub returns : goal.returns
unfolding told job_at
returns c =
    record { bytes_value = well-formed c.args.bytes.now c.requires.0 (surface_at c.args.shape c.args.bytes.now) (after c.args.shape) c.surface_end-at.result c.surface_end-at.ensures.0 c.if-bytes-at.false c.is_mark.result c.is_mark.ensures c.if-not-is_mark.false _ refl c.if-left-ne0.false c.all_marks.result c.all_marks.ensures c.if-not-all_marks.false; laid = record { few = c.requires.1; whole = omega (arith, c.surface_end-at.ensures.0, c.if-left-ne0.false) } }
