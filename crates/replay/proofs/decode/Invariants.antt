-- The words below i stand as they are to.
use Rattle.std.proofs.Common.{◌≡◌, length}
use Rattle.replay.specs.Records.{Decoded}
use Rattle.replay.proofs.decode.Given as goal

abbrev pub invariant-loop-i : goal.invariant-loop-i
invariant-loop-i l = record {
  words_count : length l.words ≡ 4094;
  numbers_count : length l.numbers ≡ 4094;
  decoded : Decoded l.bytes l.i l.words l.numbers;
}
