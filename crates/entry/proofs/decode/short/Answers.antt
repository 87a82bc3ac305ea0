-- `entry::decode::short` meets its contract. Assumes nothing.
use Rattle.text.proofs.Base.{◌≡◌, arith}
use Rattle.meaning.specs.CallRecord as by-record
use Rattle.entry.proofs.{DecodeLaws.short_none}
use Rattle.entry.proofs.decode.short.Goals as goal

pub returns-in-4 : goal.returns-in-4
unfolding by-record.decode
returns-in-4 c = let e : c.args.kind ≡ 4 = omega arith in rw e c.literal.ensures

pub returns-in-5 : goal.returns-in-5
unfolding by-record.decode
returns-in-5 c = let e : c.args.kind ≡ 5 = omega arith in rw e c.hint.ensures

pub returns-in-6 : goal.returns-in-6
unfolding by-record.decode
returns-in-6 c = let e : c.args.kind ≡ 6 = omega arith in rw e

pub returns-in-7 : goal.returns-in-7
unfolding by-record.decode
returns-in-7 c = let e : c.args.kind ≡ 7 = omega arith in rw e

pub returns-in_default : goal.returns-in_default
returns-in_default c = short_none _ _ (λ e. omega arith) (λ e. omega arith) (λ e. omega arith) (λ e. omega arith) (λ e. omega arith)
