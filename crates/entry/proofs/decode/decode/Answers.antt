-- `entry::decode::decode` meets its contract: by the number of bytes. Assumes nothing.
use Rattle.text.proofs.Base.{◌∙◌, arith}
use Rattle.entry.proofs.DecodeLaws.{five_bytes, long_none}
use Rattle.entry.proofs.decode.decode.Goals as goal

pub returns-in-5 : goal.returns-in-5
returns-in-5 c = c.numbered.ensures ∙ five_bytes c.args.bytes.now _ (omega arith) c.number.ensures

pub returns-in_default : goal.returns-in_default
returns-in_default c = long_none _ (λ e. omega arith) (λ e. omega arith) (λ e. omega arith)
