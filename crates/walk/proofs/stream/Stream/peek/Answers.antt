-- `walk::stream::Stream::peek` meets its contract. Assumes nothing.
use Rattle.walk.proofs.StreamLaws.{next_here}
use Rattle.walk.proofs.stream.Stream.peek.Goals as goal

pub returns : goal.returns
returns c = next_here _ _
