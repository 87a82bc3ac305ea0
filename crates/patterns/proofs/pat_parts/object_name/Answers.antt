-- `patterns::pat_parts::object_name` meets its contract. Assumes nothing.
use Rattle.steps.proofs.Rules.{byte_of, facts_of, ◌▹◌, steady, next_so, next_not}
use Rattle.patterns.specs.Pattern.{object_name}
use Rattle.patterns.proofs.pat_parts.object_name.Goals as goal

pub returns-then-next_is : goal.returns-then-next_is
unfolding object_name byte_of facts_of
returns-then-next_is c = next_so _ _ _ c.next_is.ensures c.if-next_is.true c.token.ensures

pub returns : goal.returns
unfolding object_name byte_of facts_of
returns c = next_not _ _ _ c.next_is.ensures c.if-next_is.false (c.next_path.ensures ▹ steady c.ws.ensures)
