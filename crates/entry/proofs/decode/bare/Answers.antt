-- `entry::decode::bare` meets its contract. Assumes nothing.
use Rattle.text.proofs.Base.{◌≡◌, arith}
use Rattle.meaning.specs.CallRecord as by-record
use Rattle.entry.proofs.{DecodeLaws.bare_none}
use Rattle.entry.proofs.decode.bare.Goals as goal

pub returns-in-8 : goal.returns-in-8
unfolding by-record.decode
returns-in-8 c = let e : c.args.kind ≡ 8 = omega arith in rw e

pub returns-in-10 : goal.returns-in-10
unfolding by-record.decode
returns-in-10 c = let e : c.args.kind ≡ 10 = omega arith in rw e

pub returns-in-11 : goal.returns-in-11
unfolding by-record.decode
returns-in-11 c = let e : c.args.kind ≡ 11 = omega arith in rw e

pub returns-in_default : goal.returns-in_default
returns-in_default c = bare_none _ (λ e. omega arith) (λ e. omega arith) (λ e. omega arith)
