-- `entry::decode::numbered` meets its contract. Assumes nothing.
use Rattle.text.proofs.Base.{◌≡◌, arith}
use Rattle.entry.proofs.{DecodeLaws.numbered_none}
use Rattle.entry.specs.Served as served
use Rattle.entry.proofs.decode.numbered.Goals as goal

pub returns-in-1 : goal.returns-in-1
unfolding served.numbered
returns-in-1 c = let e : c.args.kind ≡ 1 = omega arith in rw e

pub returns-in-2 : goal.returns-in-2
unfolding served.numbered
returns-in-2 c = let e : c.args.kind ≡ 2 = omega arith in rw e

pub returns-in-3 : goal.returns-in-3
unfolding served.numbered
returns-in-3 c = let e : c.args.kind ≡ 3 = omega arith in rw e

pub returns-in_default : goal.returns-in_default
returns-in_default c = numbered_none _ _ (λ e. omega arith) (λ e. omega arith) (λ e. omega arith)
