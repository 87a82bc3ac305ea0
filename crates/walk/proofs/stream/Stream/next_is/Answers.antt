-- `walk::stream::Stream::next_is` meets its contract. Assumes nothing.
use Rattle.walk.proofs.StreamLaws.{kind_byte, next_at, next_none}
use Rattle.walk.proofs.stream.Stream.next_is.Goals as goal

pub returns-in-Some : goal.returns-in-Some
returns-in-Some g c = next_at c.peek.ensures _ c.in-Some.is (kind_byte _ _ _ c.kind_at.ensures c.as_byte.ensures)

pub returns-in-None : goal.returns-in-None
returns-in-None g c = next_none c.peek.ensures _ c.in-None.is
