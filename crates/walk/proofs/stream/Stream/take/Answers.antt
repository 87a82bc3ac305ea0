-- `walk::stream::Stream::take` meets its contract. Assumes nothing.
use Rattle.tree.specs.Table.{tree_of}
use Rattle.walk.proofs.StreamLaws.{took_next, took_none}
use Rattle.walk.proofs.stream.Stream.take.Goals as goal

pub returns-in_err-k : goal.returns-in_err-k
returns-in_err-k c = rw c.from_residual.ensures (took_none (tree_of c.args.table.now) c.args.self.now c.peek.ensures c.in_err-k.was)

pub returns : goal.returns
returns c = took_next (tree_of c.args.table.now) c.args.self.now c.peek.ensures c.in_ok-k.was c.pass_over.ensures
