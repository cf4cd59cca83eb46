-- What fits has room for what is written. Assumes nothing.
use Rattle.std.specs.Prelude.{◌≡◌, refl, Bool, true, ◌&&◌, ℕ, ◌≤◌, leb}
use Rattle.std.proofs.Common.{sym, ◌∙◌, leb-true}
use Rattle.std.proofs.Math.Bool.{and-eq-true_iff}
use Rattle.job.specs.Printout.{most_printed}
use Rattle.lent.specs.Lent.{sound_surface, sound_options, roomy, roomy_row, roomy_edges, fits_quote, fits_jet, fits_inversion, fits_row, fits_derivative, fits_edges, fits_job}

right : (a b : Bool) → (a && b) ≡ true → b ≡ true
right a b h = ((and-eq-true_iff a b).0 h).1

both-least : (i j m n : ℕ) → (leb i m && leb j n) ≡ true → (i ≤ m) × (j ≤ n)
both-least i j m n h =
    let r = (and-eq-true_iff (leb i m) (leb j n)).0 h in
    (leb-true i m r.0, leb-true j n r.1)

pub quote-room : (flags window hinted quote : ℕ) {b : Bool} → b ≡ fits_quote flags window hinted quote → b ≡ true → 2 ≤ quote
unfolding fits_quote
quote-room flags window hinted quote e h = leb-true 2 quote (right (sound_surface flags window && leb hinted 1) (leb 2 quote) (sym e ∙ h))

pub jet-room : (flags window jet : ℕ) {b : Bool} → b ≡ fits_jet flags window jet → b ≡ true → 9 ≤ jet
unfolding fits_jet
jet-room flags window jet e h = leb-true 9 jet (right (sound_surface flags window) (leb 9 jet) (sym e ∙ h))

pub pair-room : (budget pair : ℕ) {b : Bool} → b ≡ roomy budget pair → b ≡ true → (1 ≤ budget) × (2 ≤ pair)
unfolding roomy
pair-room budget pair e h = both-least 1 2 budget pair (sym e ∙ h)

pub inversion-room : (flags window hint pu pv budget pair ended : ℕ) {b : Bool} → b ≡ fits_inversion flags window hint pu pv budget pair ended → b ≡ true → (1 ≤ budget) × (2 ≤ pair) × (2 ≤ ended)
unfolding fits_inversion
inversion-room flags window hint pu pv budget pair ended e h =
    let t = (and-eq-true_iff (sound_surface flags window && sound_options hint pu pv && roomy budget pair) (leb 2 ended)).0 (sym e ∙ h) in
    let r = pair-room budget pair refl (right (sound_surface flags window && sound_options hint pu pv) (roomy budget pair) t.0) in
    (r.0, r.1, leb-true 2 ended t.1)

pub derivative-room : (flags window budget pair : ℕ) {b : Bool} → b ≡ fits_derivative flags window budget pair → b ≡ true → (1 ≤ budget) × (2 ≤ pair)
unfolding fits_derivative
derivative-room flags window budget pair e h = pair-room budget pair refl (right (sound_surface flags window) (roomy budget pair) (sym e ∙ h))

pub row_room : (flags window hint pu pv budget index : ℕ) {b : Bool} → b ≡ fits_row flags window hint pu pv budget index → b ≡ true → (1 ≤ budget) × (1 ≤ index)
unfolding fits_row roomy_row
row_room flags window hint pu pv budget index e h = both-least 1 1 budget index (right (sound_surface flags window && sound_options hint pu pv) (roomy_row budget index) (sym e ∙ h))

pub edges_room : (flags window collapsed edges : ℕ) {b : Bool} → b ≡ fits_edges flags window collapsed edges → b ≡ true → (4 ≤ collapsed) × (20 ≤ edges)
unfolding fits_edges roomy_edges
edges_room flags window collapsed edges e h = both-least 4 20 collapsed edges (right (sound_surface flags window) (roomy_edges collapsed edges) (sym e ∙ h))

pub job-room : (printout written : ℕ) {b : Bool} → b ≡ fits_job printout written → b ≡ true → (most_printed ≤ printout) × (1 ≤ written)
unfolding fits_job
job-room printout written e h = both-least most_printed 1 printout written (sym e ∙ h)
