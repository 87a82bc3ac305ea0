-- `walk::stream::Stream::pump` meets its contract. Assumes nothing.
use Rattle.walk.proofs.FlowLaws.{got_so}
use Rattle.walk.proofs.stream.Stream.pump.Goals as goal

pub returns : goal.returns
returns c = got_so _ c.take-found.ensures c.or_refused.ensures
