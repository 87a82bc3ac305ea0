-- `patterns::pat_parts::close_object` meets its contract. Assumes nothing.
use Rattle.patterns.proofs.{PatLaws.object_closed, PatLaws.object_empty}
use Rattle.patterns.proofs.pat_parts.close_object.Goals as goal

pub returns-then-says : goal.returns-then-says
returns-then-says c = object_closed _ (c.says.ensures _) (c.pass.ensures _) c.if-says.true c.ws.ensures

pub returns : goal.returns
returns c = object_empty _ (c.says.ensures _) (c.pass.ensures _) c.if-says.false c.comments.ensures
