-- `entry::decode::flush` meets its contract. Assumes nothing.
use Rattle.text.proofs.Base.{◌≡◌, false, true, [], ◌∷◌, arith}
use Rattle.entry.proofs.{DecodeLaws.at_none}
use Rattle.meaning.specs.declared.call.Call.TheVariants.{FlushWhitespace}
use Rattle.meaning.specs.CallRecord as by-record
use Rattle.entry.proofs.decode.flush.Goals as goal

pub returns-in-0 : goal.returns-in-0
unfolding by-record.decode
returns-in-0 c = let e : c.args.b ≡ 0 = omega arith in rw e

pub returns-in-1 : goal.returns-in-1
unfolding by-record.decode
returns-in-1 c = let e : c.args.b ≡ 1 = omega arith in rw e

pub returns-in_default : goal.returns-in_default
unfolding by-record.decode
returns-in_default c = at_none (FlushWhitespace false ∷ FlushWhitespace true ∷ []) c.args.b (omega arith)
