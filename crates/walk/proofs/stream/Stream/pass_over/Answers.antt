-- `walk::stream::Stream::pass_over` meets its contract. Assumes nothing.
use Rattle.tree.specs.Table.{tree_of}
use Rattle.walk.proofs.StreamLaws.{passed_over}
use Rattle.walk.proofs.stream.Stream.pass_over.Goals as goal

pub returns : goal.returns
returns c = passed_over (tree_of c.args.table.now) c.args.self.now c.args.k.0 c.behind.ensures c.kept_from-self.ensures
