-- `walk::stream::Stream::eat` meets its contract. Assumes nothing.
use Rattle.tree.specs.Table.{tree_of}
use Rattle.walk.specs.Stream.{stream_at}
use Rattle.walk.proofs.StreamLaws.{took_if, took_not}
use Rattle.walk.proofs.stream.Stream.eat.Goals as goal

pub returns-then-next_is : goal.returns-then-next_is
returns-then-next_is g c = took_if _ (stream_at (tree_of c.args.table.now) c.args.self.now) c.next_is.ensures c.if-next_is.true c.take.ensures

pub returns : goal.returns
returns g c = took_not _ (stream_at (tree_of c.args.table.now) c.args.self.now) c.next_is.ensures c.if-next_is.false
