-- `entry::decode::number` meets its contract. Assumes nothing.
use Rattle.text.proofs.Base.{◌∙◌, sym}
use Rattle.entry.proofs.{DecodeLaws.four_at}
use Rattle.entry.proofs.decode.number.Goals as goal

pub returns : goal.returns
returns c = c.from_le_bytes.ensures ∙ sym (four_at c.args.bytes.now)
