-- `uses::use_parts::as_name` meets its contract. Assumes nothing.
use Rattle.steps.proofs.Rules.{byte_of, facts_of, nothing_made, ◌▹◌, steady, next_so, next_not}
use Rattle.uses.specs.Use.{as_name}
use Rattle.uses.proofs.use_parts.as_name.Goals as goal

pub returns-then-next_is : goal.returns-then-next_is
unfolding as_name byte_of facts_of
returns-then-next_is c = next_so _ _ _ c.next_is.ensures c.if-next_is.true (steady c.ws.ensures ▹ c.any.ensures ▹ c.spaced_if.ensures)

pub returns-else-next_is : goal.returns-else-next_is
unfolding as_name byte_of facts_of
returns-else-next_is c = next_not _ _ _ c.next_is.ensures c.if-next_is.false (steady nothing_made)
