-- `format::ended::ended` meets its contract. Zeroed, or as it is. Assumes nothing.
use Rattle.format.proofs.{EndLaws.end_open, EndLaws.end_stopped}
use Rattle.format.proofs.ended.ended.Goals as goal

pub returns-then-stopped : goal.returns-then-stopped
returns-then-stopped c = record { step = c.left.ensures.out; buffer = end_stopped c.args.fmt.now.answer _ _ _ c.stopped.ensures c.if-stopped.true c.zero_from.ensures }

pub returns : goal.returns
returns c = record { step = c.left-2.ensures.out; buffer = end_open c.args.fmt.now.answer _ _ c.stopped.ensures c.if-stopped.false }
