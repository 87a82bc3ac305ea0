-- `wire::word::word` meets its contract. Assumes nothing.
use Rattle.wire.proofs.WordLaws.{word_is}
use Rattle.wire.proofs.word.word.Goals as goal

pub returns : goal.returns
returns c = word_is c.args.s.now c.args.i c.from_le_bytes.ensures
