-- `walk::stream::Stream::left_over` meets its contract. Assumes nothing.
use Rattle.walk.proofs.FlowLaws.{over, over_none}
use Rattle.walk.proofs.stream.Stream.left_over.Goals as goal

pub returns-in-Some : goal.returns-in-Some
returns-in-Some c = over c.peek.ensures c.in-Some.is c.refuse.ensures

pub returns-in_default : goal.returns-in_default
returns-in_default c = over_none c.peek.ensures c.in_default.not-Some
