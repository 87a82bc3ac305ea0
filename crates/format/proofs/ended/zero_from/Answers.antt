-- `format::ended::zero_from` meets its contract. Assumes nothing.
use Rattle.steps.proofs.Rules.{arith}
use Rattle.entry.proofs.RunLaws.{zero_all, zero_none}
use Rattle.format.proofs.ended.zero_from.Goals as goal

pub returns-then-n-out : goal.returns-then-n-out
returns-then-n-out c = zero_all c.args.n c.args.out.now _ (omega arith) c.fill.ensures

pub returns-else-n-out : goal.returns-else-n-out
returns-else-n-out c = zero_none _ _ c.if-n-out.false
