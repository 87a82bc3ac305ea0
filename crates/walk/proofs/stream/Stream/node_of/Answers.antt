-- `walk::stream::Stream::node_of` meets its contract. Assumes nothing.
use Rattle.walk.proofs.StreamLaws.{node_is}
use Rattle.walk.proofs.stream.Stream.node_of.Goals as goal

pub returns : goal.returns
returns c = node_is _ _
