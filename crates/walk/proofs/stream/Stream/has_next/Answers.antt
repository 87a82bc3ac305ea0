-- `walk::stream::Stream::has_next` meets its contract. Assumes nothing.
use Rattle.text.proofs.Base.{◌∙◌}
use Rattle.walk.proofs.StreamLaws.{any_next}
use Rattle.walk.proofs.stream.Stream.has_next.Goals as goal

pub returns : goal.returns
returns c = c.is_some.ensures ∙ any_next c.peek.ensures
