-- The bytes of a chunk that is read at an index.
use Rattle.std.proofs.Common.{◌≡◌, ℕ, ◌+◌, ◌-◌, ◌≤◌, ◌<◌, List, length, get_or, take, drop, ap, ◌∙◌, get_or-take, get_or-drop, arith}
use Rattle.std.specs.Array.{IsFirstChunk}

pub byte_of_chunk : (bytes chunk : List ℕ) (at n : ℕ) → IsFirstChunk (take (length bytes - at) (drop at bytes)) chunk n → at + n ≤ length bytes
    → (k : ℕ) → k < n → get_or chunk k 0 ≡ get_or bytes (at + k) 0
byte_of_chunk bytes chunk at n c room k h =
    ap (λ (l : List ℕ). get_or l k 0) c.same ∙ get_or-take n (take (length bytes - at) (drop at bytes)) k 0 h
    ∙ get_or-take (length bytes - at) (drop at bytes) k 0 (omega arith) ∙ get_or-drop at bytes k 0
