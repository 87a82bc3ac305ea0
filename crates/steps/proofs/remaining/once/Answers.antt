-- `steps::remaining::once` meets its contract. Assumes nothing.
use Rattle.tree.specs.Table.{tree_of}
use Rattle.walk.specs.Stream.{stream_at}
use Rattle.steps.proofs.{RestLaws.second_is, RestLaws.second_none}
use Rattle.steps.proofs.remaining.once.Goals as goal

pub returns-then-next_is : goal.returns-then-next_is
returns-then-next_is c = second_is (tree_of c.args.table.now) c.args.mark (stream_at (tree_of c.args.table.now) c.args.p.now) c.token.ensures c.next_is.ensures c.if-next_is.true c.not_met.ensures

pub returns-else-next_is : goal.returns-else-next_is
returns-else-next_is c = second_none (tree_of c.args.table.now) c.args.mark (stream_at (tree_of c.args.table.now) c.args.p.now) c.token.ensures c.next_is.ensures c.if-next_is.false
