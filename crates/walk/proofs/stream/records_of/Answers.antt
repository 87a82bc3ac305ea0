-- `walk::stream::records_of` meets its contract. Assumes nothing.
use Rattle.tree.specs.Table.{tree_of}
use Rattle.walk.proofs.StreamLaws.{records_in}
use Rattle.walk.proofs.stream.records_of.Goals as goal

pub returns : goal.returns
returns c = records_in (tree_of c.args.table.now) c.args.k c.children_of-children.ensures c.peek.ensures
