-- What is there has room, and what was there at first stays.
use Rattle.std.proofs.Common.{◌≡◌, ◌≤◌, length, take}
use Rattle.reading.proofs.read_rest.Given as goal

abbrev pub invariant-loop : goal.invariant-loop
invariant-loop g l = record {
  onward : l.fn.from ≤ l.have;
  has_room : l.have ≤ length l.bytes;
  bytes_unchanged : take l.fn.from l.bytes ≡ take l.fn.from l.fn.bytes;
}
