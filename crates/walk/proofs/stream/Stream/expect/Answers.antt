-- `walk::stream::Stream::expect` meets its contract. Assumes nothing.
use Rattle.walk.proofs.FlowLaws.{got_so}
use Rattle.walk.proofs.stream.Stream.expect.Goals as goal

pub returns : goal.returns
returns g c = got_so _ c.eat-found.ensures c.or_refused.ensures
