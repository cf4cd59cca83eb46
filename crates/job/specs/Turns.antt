-- The marks of a job in its file, and the line of one of them. Definitions only.
use Rattle.std.specs.Prelude.{List, ℕ, ◌+◌, ◌*◌, ◌≤◌}
use Rattle.vector3.specs.declared.Vector3.{Vector3}
use Rattle.row_step.specs.declared.Stepped.{Stepped}
use Rattle.row_step.specs.declared.Stepped.TheVariants.{Placed, Refusal}
use Rattle.row.specs.Row.{u_of, v_of, end_of}
use Rattle.job_lines.specs.Lines.{longest_line, pair_line, refused_line}
use Rattle.job_format.specs.Format.{terms_size, mark_size}
use Rattle.job_format.specs.Offsets.{terms_at, marks_at}
use Rattle.job.specs.declared.marks.Queue.{Queue}
use Rattle.job.specs.Printout.{search_terms}

-- n marks, whose records follow that of the terms, which starts at index `at`
abbrev pub queue_at : List ℕ → ℕ → ℕ → Queue
queue_at bytes at n =
    let t = terms_at bytes at in
    record { progress = record { terms = search_terms t.tolerance; left = t.budget }; first = at + terms_size; count = n }

abbrev pub marks_of : Queue → List ℕ → List Vector3
marks_of q bytes = marks_at q.count bytes q.first

-- their records lie in a file of `size` bytes, and from an index on there is room for a line each and one more
abbrev pub Roomy : Queue → (size from room : ℕ) → Type 0
Roomy q size from room = (q.first + mark_size * q.count ≤ size) × (from + longest_line * (q.count + 1) ≤ room)

-- the line of mark number i
unfoldable pub step_line : ℕ → Stepped → List ℕ
step_line i (Placed c p) = pair_line (u_of c) (v_of c) p.left (end_of c)
step_line i (Refusal number left) = refused_line number i
