use Rattle.std.proofs.Common.{arith}
use Rattle.words.specs.Words.{little_endian}
use Rattle.words.proofs.Chunks.{byte_of_chunk}
use Rattle.words.proofs.word_at.Goals as goal

pub returns : goal.returns
unfolding little_endian
returns c = let f = rw c.unwrap-word.ensures at c.first_chunk.ensures.cases in omega (arith, byte_of_chunk c.args.bytes.now c.unwrap-word.result.now c.args.at 8 f c.requires)
