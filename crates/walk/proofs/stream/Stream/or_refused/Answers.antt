-- `walk::stream::Stream::or_refused` meets its contract. Assumes nothing.
use Rattle.walk.proofs.FlowLaws.{found_it, found_none}
use Rattle.walk.proofs.stream.Stream.or_refused.Goals as goal

pub returns-in-Some : goal.returns-in-Some
returns-in-Some c = found_it c.in-Some.is

pub returns-in-None : goal.returns-in-None
returns-in-None c = found_none c.in-None.is c.not_met.ensures
