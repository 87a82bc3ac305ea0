-- `wire::word::put` meets its contract. Assumes nothing.
use Rattle.wire.proofs.WordLaws.{put_is}
use mathlib.Core.Path.{◌∙◌}
use Rattle.wire.proofs.word.put.Goals as goal

pub returns : goal.returns
returns c = put_is c.args.to.now c.args.i c.args.w (c.copy_from_slice.ensures.after ∙ c.to_le_bytes.ensures)
